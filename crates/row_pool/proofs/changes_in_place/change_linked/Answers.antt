use Rattle.std.proofs.Common.{◌<◌, ap, sym, subst, refl, ◌∙◌, inl, inr, arith}
use mathlib.Core.Option.{some, some-injective}
use Rattle.atomic_table.proofs.Lists.{set_again}
use Rattle.row_pool.specs.Lists.{find}
use Rattle.row_pool.specs.Trees.{Tree, Entry, Link, children, words_of}
use Rattle.row_pool.specs.SeatView.{SeatView}
use Rattle.row_pool.specs.Layout.{first_link}
use Rattle.row_pool.specs.Changes.{entry_of, with_link, written, numbered}
use Rattle.row_pool.specs.SeatState.{LinksToLive}
use Rattle.row_pool.proofs.Chains.{find-noted}
use Rattle.row_pool.proofs.TestChanges.{OwnsLinked, owns-linked, LinkedWritten, linked-written, linked-again}
use Rattle.row_pool.proofs.changes_in_place.change_linked.Goals.{Else-not-own_if_single, After-write}
use Rattle.row_pool.proofs.changes_in_place.change_linked.Goals as goal

-- the item is owned, by the leaf's link
owned : (c : Else-not-own_if_single) (d : Entry) (u : Tree) → LinksToLive c.args.seat.now.view c.args.item c.args.leaf 0 d u
    → OwnsLinked c.args.seat.now.view c.own_if_single.new.seat.view c.args.item c.args.leaf d u
owned c d u link = owns-linked c.args.seat.now.view c.own_if_single.new.seat.view c.args.item c.args.leaf d u c.known.ensures link
    (c.own_if_single.ensures.through_link c.if-not-own_if_single.false c.args.leaf 0 d u link)

-- and its word is written
wrote : (c : After-write) (d : Entry) (u : Tree) → LinksToLive c.args.seat.now.view c.args.item c.args.leaf 0 d u
    → LinkedWritten c.args.seat.now.view c.own_if_single.new.seat.view c.write.new.seat.view c.args.item c.args.leaf c.args.value d u
wrote c d u link =
    let o = owns-linked c.args.seat.now.view c.own_if_single.new.seat.view c.args.item c.args.leaf d u c.known.ensures link
    (c.own_if_single.ensures.through_link c.if-not-own_if_single.false c.args.leaf 0 d u link) in
    linked-written c.args.seat.now.view c.own_if_single.new.seat.view c.write.new.seat.view c.args.item c.args.leaf c.args.value d u o link.1
    (c.write.ensures.content (λ z. absurd (omega arith)) (entry_of u 0 1) o.has)

pub returns-then-not-own_if_single-clause-link : goal.returns-then-not-own_if_single-clause-link
returns-then-not-own_if_single-clause-link c = λ d u link is. (
  u,
  ap (λ (v : SeatView). find c.args.leaf v.owned) (c.own_if_single.ensures.shared c.if-not-own_if_single.true) ∙ link.0
      ∙ ap (λ ls. some (record { kind = d.kind; own = d.own; linked = d.linked; links = ls; known = d.known }))
      (sym (set_again d.links 0 (Link.to u) link.1)),
  link.2,
  is,
  λ t. cc,
)

pub write-requires-clause-owned : goal.write-requires-clause-owned
write-requires-clause-owned c =
    let g = c.requires.link in
    let o = owned (goal.at.write-requires-clause-owned c).Else-not-own_if_single g.0 g.1 g.2 in
    (entry_of g.1 0 1, o.has, (omega arith, omega arith, inl (subst (λ k. 5 < first_link k) (sym g.3) (omega arith))), λ z. absurd (omega arith))

pub publish-requires-clause-whole : goal.publish-requires-clause-whole
publish-requires-clause-whole c =
    let g = c.requires.link in
    let w = wrote (goal.at.publish-requires-clause-whole c).After-write g.0 g.1 g.2 in (
      written 5 c.args.value (entry_of g.1 0 1),
      children g.1,
      w.has,
      w.owns.some_kind,
      refl,
      w.owns.shallow,
      inr (refl, (c.args.leaf, 0, with_link 0 (Link.own c.args.item) g.0, w.leads)),
    )

pub publish-requires-clause-room : goal.publish-requires-clause-room
publish-requires-clause-room c = λ e has unlinked.
    let g = c.requires.link in
    let w = wrote (goal.at.publish-requires-clause-room c).After-write g.0 g.1 g.2 in
    let z = ap (λ (e : Entry). e.linked) (some-injective e (written 5 c.args.value (entry_of g.1 0 1)) (sym has ∙ w.has)) in absurd (omega arith)

pub returns-clause-only : goal.returns-clause-only
returns-clause-only c =
    let g = c.requires.link in
    let w = wrote (goal.at.returns-clause-only c).After-write g.0 g.1 g.2 in
    let e : Entry = written 5 c.args.value (entry_of g.1 0 1) in
    let l : Entry = with_link 0 (Link.own c.args.item) g.0 in
    let live = c.publish.ensures.through_link e l (children g.1) c.args.leaf 0 w.has refl refl w.leads in
    (linked-again c.args.seat.now.view c.own_if_single.new.seat.view c.write.new.seat.view c.publish.new.seat.view c.args.item c.args.leaf c.args.value
    g.0 g.1 live.0 w live.2).0

pub returns-clause-link : goal.returns-clause-link
returns-clause-link c = λ d u link is.
    let w = wrote (goal.at.returns-clause-link c).After-write d u link in
    let e : Entry = written 5 c.args.value (entry_of u 0 1) in
    let l : Entry = with_link 0 (Link.own c.args.item) d in
    let live = c.publish.ensures.through_link e l (children u) c.args.leaf 0 w.has refl refl w.leads in
    let again = linked-again c.args.seat.now.view c.own_if_single.new.seat.view c.write.new.seat.view c.publish.new.seat.view c.args.item c.args.leaf
    c.args.value d u live.0 w live.2 in (
      live.0,
      again.1,
      live.1.here,
      live.1.kind ∙ is,
      λ _. live.1.known 5 c.args.value (omega arith, omega arith, inl (subst (λ k. 5 < first_link k) (sym is) (omega arith)))
          (find-noted 5 c.args.value (numbered 0 (words_of u))),
    )
