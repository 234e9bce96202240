use Rattle.std.proofs.Common.{[], ◌∷◌, ◌++◌, ◌∙◌, refl, ap}
use Rattle.latch_model.specs.Histories.{met_by}
use Rattle.latch_shots.specs.Shots.{content_of}
use Rattle.shot_walks.proofs.Numbering.{numbers, numbers_all, numbers_next}
use Rattle.shot_walks.proofs.numbers.add_for.Goals as goal

pub loop-met-init : goal.loop-met-init
loop-met-init c = record {
  same = ap content_of c.first-walk.ensures.same;
  walk = λ s h. (met_by s c.args.asked.now, c.first-walk.ensures.walk s h, refl);
}

pub next-requires-clause-walk : goal.next-requires-clause-walk
next-requires-clause-walk c = let (s, h) = c.requires.shown in let (todo, m, is) = c.loop-met.invariant.walk s h in (todo, m)

pub loop-met-preserved : goal.loop-met-preserved
loop-met-preserved c = record {
  same = c.next.ensures.same ∙ c.loop-met.invariant.same;
  walk = λ s h.
      let all = c.args.ids.now.items ++ numbers (met_by s c.args.asked.now) in
      let (todo, m, is) = c.loop-met.invariant.walk s h in
      let (x, rest, e, met, more) = c.in-Some.ensures.next todo m in
      let added = c.in_ok-push.ensures.items ∙ ap (λ by. c.loop-met.ids.items ++ by ∷ []) met.whose in
      (rest, more, numbers_next all c.loop-met.ids.items c.push.new.self.items todo (x ∷ []) rest is e added);
}

pub returns-clause-added : goal.returns-clause-added
returns-clause-added c = λ s h.
    let (todo, m, is) = c.loop-met.invariant.walk s h in
    numbers_all (c.args.ids.now.items ++ numbers (met_by s c.args.asked.now)) c.loop-met.ids.items todo is (c.in_default.ensures.next todo m).0
