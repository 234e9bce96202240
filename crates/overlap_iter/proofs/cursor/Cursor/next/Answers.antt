use Rattle.std.proofs.Common.{◌≡◌, [], sym, subst, ◌∙◌, arith}
use Rattle.overlap_iter.specs.Walks.{WalksWithin}
use Rattle.overlap_iter.proofs.Frames.{root-stays}
use Rattle.overlap_iter.proofs.WholeWalks.{within-then, came-then, at-end, not-some}
use Rattle.overlap_iter.proofs.cursor.Cursor.next.Goals as goal

pub step-requires-clause-walk : goal.step-requires-clause-walk
step-requires-clause-walk c =
    let (root, todo, work, up, w) = c.requires.walk in
    let m = c.loop-self.invariant.walks root todo work up w in
    (root, todo, m.work, root-stays c.args.seat.now.view c.loop-self.seat.view root c.loop-self.invariant.view up, m.walks)

pub returns-in-Some-clause-next : goal.returns-in-Some-clause-next
returns-in-Some-clause-next c = λ root todo work up w.
    let m = c.loop-self.invariant.walks root todo work up w in
    came-then c.args.span.now root c.loop-self.self c.step.new.self todo c.in-Some.item c.args.seat.now.follows c.loop-self.seat.follows
    c.step.new.seat.follows work m (c.in-Some.ensures.step root todo m.work
    (root-stays c.args.seat.now.view c.loop-self.seat.view root c.loop-self.invariant.view up) m.walks)

pub loop-self-preserved : goal.loop-self-preserved
loop-self-preserved c = record {
  table = c.step.ensures.same.0 ∙ c.loop-self.invariant.table;
  view = c.step.ensures.same.1 ∙ c.loop-self.invariant.view;
  less = (let a = c.step.ensures.ends in let b = c.loop-self.invariant.less in omega arith);
  walks = λ root todo work up w.
      let m = c.loop-self.invariant.walks root todo work up w in
      within-then c.args.span.now root c.loop-self.self c.step.new.self todo todo c.args.seat.now.follows c.loop-self.seat.follows
      c.step.new.seat.follows work m (c.in_default.ensures.step root todo m.work
      (root-stays c.args.seat.now.view c.loop-self.seat.view root c.loop-self.invariant.view up) m.walks);
}

pub returns-clause-next : goal.returns-clause-next
returns-clause-next c = λ root todo work up w.
    let m = c.loop-self.invariant.walks root todo work up w in
    let none : todo ≡ [] = at-end c.args.span.now root c.loop-self.self todo m.work m.walks
    (not-some c.loop-self.self.next (sym c.is_some.ensures ∙ c.if-is_some.false))
    (λ low. let t = c.if-self.false in omega arith) in
    (none, subst (λ l. WalksWithin c.args.span.now root c.loop-self.self l c.args.seat.now.follows c.loop-self.seat.follows work) none m)
