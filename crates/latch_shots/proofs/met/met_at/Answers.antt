use Rattle.std.proofs.Common.{not, ◌&&◌, ◌==◌, sym, ap, ◌∙◌, refl, subst}
use Rattle.std.proofs.Math.Bool.{and-false}
use Rattle.std.proofs.lemmas.Bool.{eq-eqb, ne_eqb}
use Rattle.latch_model.specs.Latches.{interfere, normal}
use Rattle.latch_item.specs.Items.{HasItem}
use Rattle.row_pool.specs.SeatState.{SeatState}
use Rattle.latch_shots.specs.Held.{held_as}
use Rattle.latch_shots.specs.Met.{stamps_meet}
use Rattle.latch_shots.proofs.met.met_at.Goals as goal
use Rattle.latch_shots.proofs.met.met_at.Goals.{then-facts-own-via-then-facts-own, then-facts-own-via-else-facts-own+then-not-interferes}

pub returns-then-facts-own-clause-met : goal.returns-then-facts-own-clause-met
returns-then-facts-own-clause-met c = λ x h.
    let l = c.args.asked.now in let facts = c.item_facts-facts.ensures.facts x h in let meets = stamps_meet l (held_as c.args.access x) in
    elim c.then-facts-own.branch [
      | then-facts-own-via-then-facts-own w ↦ ap (λ n. not (n == c.args.own) && meets) (sym facts.0) ∙ ap (λ b. not b && meets) (eq-eqb c.item_facts-facts.result.id c.args.own w.if-facts-own.true)
      | then-facts-own-via-else-facts-own+then-not-interferes w ↦
          ap (λ b. not (x.id == c.args.own) && b)
          (ap (interfere l.access (normal l) c.args.access) (sym facts.3) ∙ sym w.interferes.ensures ∙ w.if-not-interferes.true)
          ∙ and-false (not (x.id == c.args.own))
    ]

pub returns-clause-met : goal.returns-clause-met
returns-clause-met c = λ x h.
    let l = c.args.asked.now in let facts = c.item_facts-facts.ensures.facts x h in (
      ap (λ n. not (n == c.args.own) && stamps_meet l (held_as c.args.access x)) (sym facts.0)
          ∙ (ap (λ b. not b && stamps_meet l (held_as c.args.access x)) (ne_eqb c.item_facts-facts.result.id c.args.own c.if-facts-own.false)
          ∙ (ap (interfere l.access (normal l) c.args.access) (sym facts.3) ∙ sym c.interferes.ensures ∙ c.if-not-interferes.false)),
      record {
        whose = facts.0;
        which = facts.1;
        runs_in = facts.2;
        stamp_is = facts.3;
        access_is = refl;
        item = x;
        here = subst (λ (s : SeatState). HasItem s.view c.args.row x) (sym c.item_facts-facts.ensures.same) h;
        says = refl;
      },
    )
