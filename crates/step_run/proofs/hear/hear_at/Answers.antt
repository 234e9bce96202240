use Rattle.std.proofs.Common.{map, sym, ap, ◌∙◌, subst}
use Rattle.step_run.specs.Lives.{Heard, IsOf, LiveSays, seen_live, warned_value, with_value}
use Rattle.step_run.specs.declared.live.Value.{Value}
use Rattle.waiter.specs.Says.{id_of}
use Rattle.step_run.proofs.Lives.{seen_at, seen_get, set_value}
use Rattle.step_run.proofs.hear.hear_at.Goals as goal

pub hear-requires-clause-value : goal.hear-requires-clause-value
hear-requires-clause-value c =
    let x = c.index_mut-live.result.now in
    let l = c.requires.live (seen_live x) (seen_get c.args.lives.now.items c.args.i x c.index_mut-live.ensures.value c.requires.inside) in
    (x.session, subst (λ (v : Value). IsOf (id_of c.args.core.now) x.session v) (sym c.deref_mut.ensures.value) l.of)

pub returns-clause-lives : goal.returns-clause-lives
returns-clause-lives c = λ l at.
    let xs = c.args.lives.now.items in
    let x = c.index_mut-live.result.now in
    let same = seen_at xs c.args.i x l at c.index_mut-live.ensures.value in
    let w = c.hear.ensures.value in (
      w.0,
      set_value xs c.args.i x c.hear.new.value c.index_mut-live.ensures.value ∙ ap (λ (v : Value). with_value c.args.i v (map seen_live xs)) w.1
          ∙ ap (λ (v : Value). with_value c.args.i (warned_value w.0 v) (map seen_live xs)) (c.deref_mut.ensures.value ∙ ap (λ (k : LiveSays). k.value) same),
    )

pub returns-clause-heard : goal.returns-clause-heard
returns-clause-heard c = λ l at.
    let same = seen_at c.args.lives.now.items c.args.i c.index_mut-live.result.now l at c.index_mut-live.ensures.value in
    subst (λ (v : Value). Heard c.args.by c.args.waiting.now.r c.hear.new.waiting.r v) (c.deref_mut.ensures.value ∙ ap (λ (k : LiveSays). k.value) same)
    c.hear.ensures.heard
