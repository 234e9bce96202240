use Rattle.std.proofs.Common.{◌≡◌, ◌+◌, ◌-◌, ℕ, suc, [], ◌∷◌, sym, refl, subst, arith}
use Rattle.interval_tree.specs.States.{Coming, Entering, Standing}
use Rattle.interval_tree.specs.Trees.{beside}
use Rattle.interval_tree.proofs.Frames.{spends-more}
use Rattle.interval_tree.proofs.Linking.{room-less}
use Rattle.interval_tree.proofs.tree.insert_any.Goals as goal

pub plant-requires-clause-item : goal.plant-requires-clause-item
plant-requires-clause-item c =
    let (xs, it, rest, e) = c.requires.tree in
    let (empty, refs, here, latch, few) = subst (λ r. Entering r c.args.height c.args.seat.now.view c.args.item xs it rest) c.in-None.is e in
    (it, rest, refs, here, latch, few)

pub plant-requires-clause-room : goal.plant-requires-clause-room
plant-requires-clause-room c = room-less 1 7 c.args.seat.now.view c.args.chain.now (omega arith) c.requires.room

pub returns-in-None-clause-tree : goal.returns-in-None-clause-tree
returns-in-None-clause-tree c = λ xs it rest e.
    let (empty, refs, here, latch, few) = subst (λ r. Entering r c.args.height c.args.seat.now.view c.args.item xs it rest) c.in-None.is e in (
      it ∷ [],
      record { front = []; back = []; old = empty; new = refl; low = tt; high = tt },
      subst (λ r. Standing c.plant.new.seat.view c.plant.result 1 (it ∷ []) (beside r rest)) (sym c.in-None.is) (c.plant.ensures.tree it rest refs here latch),
    )

pub returns-in-None-clause-spends : goal.returns-in-None-clause-spends
returns-in-None-clause-spends c = λ rs h.
    spends-more 1 7 [] [] rs c.args.seat.now.view c.plant.new.seat.view c.plant.new.chain (omega arith) (c.plant.ensures.spends rs h)

-- the level of the root
level : (h l : ℕ) → h ≡ suc l → h - 1 ≡ l
level h l e = omega arith

pub insert_live-over-requires-clause-tree : goal.insert_live-over-requires-clause-tree
insert_live-over-requires-clause-tree c =
    let (xs, it, rest, e) = c.requires.tree in
    let (l, is, p) = subst (λ r. Entering r c.args.height c.args.seat.now.view c.args.item xs it rest) c.in-Some.is e in
    (xs, it, rest, subst (λ k. Coming k c.args.seat.now.view c.in-Some.root c.args.item xs it rest) (sym (level c.args.height l is)) p)

pub returns-in-Some-clause-tree : goal.returns-in-Some-clause-tree
returns-in-Some-clause-tree c = λ xs it rest e.
    let (l, is, p) = subst (λ r. Entering r c.args.height c.args.seat.now.view c.args.item xs it rest) c.in-Some.is e in
    let (ys, more, s) = c.insert_live-over.ensures.tree xs it rest
    (subst (λ k. Coming k c.args.seat.now.view c.in-Some.root c.args.item xs it rest) (sym (level c.args.height l is)) p) in (
      ys,
      more,
      subst (λ r. Standing c.insert_live-over.new.seat.view c.insert_live-over.result.0 (c.insert_live-over.result.1 + 1) ys (beside r rest))
          (sym c.in-Some.is) s,
    )
