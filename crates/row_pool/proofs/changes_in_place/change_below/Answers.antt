use Rattle.std.proofs.Common.{◌≡◌, List, ◌∷◌, set, refl, ap, ◌∙◌, inl}
use lib.ListN.{get_elem?}
use Rattle.atomic_table.proofs.Lists.{at_map}
use Rattle.row_pool.specs.Trees.{Tree, Link, children}
use Rattle.row_pool.specs.SeatView.{SeatView}
use Rattle.row_pool.specs.Changes.{entry_of, with_link}
use Rattle.row_pool.specs.TestSeats.{IsLeafOver}
use Rattle.row_pool.specs.SeatState.{LinksToLive}
use Rattle.row_pool.proofs.TestSeats.{OwnsNewest, owns-newest, live-again, stand-again}
use Rattle.row_pool.proofs.TestChanges.{leaf-changed}
use Rattle.row_pool.proofs.changes_in_place.change_below.Goals.{Else-not-own_if_single, After-known-2}
use Rattle.row_pool.proofs.changes_in_place.change_below.Goals as goal

-- the leaf is owned
owned : (c : Else-not-own_if_single) (x u : Tree) (ts : List Tree) → c.args.seat.now.view.refs ≡ x ∷ ts → IsLeafOver c.args.leaf c.args.item x u
    → OwnsNewest c.args.seat.now.view c.own_if_single.new.seat.view c.args.leaf x
owned c x u ts refs over = owns-newest c.args.seat.now.view c.own_if_single.new.seat.view c.args.leaf x ts c.known.ensures refs over.here
    (c.own_if_single.ensures.owned c.if-not-own_if_single.false)

-- its first link leads to the item
leads : (c : Else-not-own_if_single) (x u : Tree) (ts : List Tree) → c.args.seat.now.view.refs ≡ x ∷ ts → IsLeafOver c.args.leaf c.args.item x u
    → LinksToLive c.own_if_single.new.seat.view c.args.item c.args.leaf 0 (entry_of x 1 0) u
leads c x u ts refs over = ((owned c x u ts refs over).has, at_map Link.to (children x) 0 u over.first, over.below)

pub change_linked-changed-requires-clause-link : goal.change_linked-changed-requires-clause-link
change_linked-changed-requires-clause-link c =
    let g = c.requires.stand in
    let at = leads (goal.at.change_linked-changed-requires-clause-link c).Else-not-own_if_single g.0 g.1 g.2 g.4.refs g.5 in
    (entry_of g.0 1 0, g.1, at, g.5.is_item)

pub publish-requires-clause-whole : goal.publish-requires-clause-whole
publish-requires-clause-whole c =
    let g = c.requires.stand in
    let here = (goal.at.publish-requires-clause-whole c).Else-not-own_if_single in
    let o = owned here g.0 g.1 g.2 g.4.refs g.5 in
    let z = c.change_linked-changed.ensures.link (entry_of g.0 1 0) g.1 (leads here g.0 g.1 g.2 g.4.refs g.5) g.5.is_item in
    let l = leaf-changed c.args.seat.now.view c.own_if_single.new.seat.view c.change_linked-changed.new.seat.view c.args.leaf g.0 g.1 z.0 o g.5.first
    c.known-2.ensures z.1 z.3 in
    (with_link 0 (Link.to z.0) (entry_of g.0 1 0), set (children g.0) 0 z.0, z.1, o.some_kind, l.links, l.shallow, inl refl)

pub returns-clause-stand : goal.returns-clause-stand
returns-clause-stand c = λ x u ts rs h over.
    let v : SeatView = c.args.seat.now.view in
    let w : SeatView = c.own_if_single.new.seat.view in
    let y : SeatView = c.change_linked-changed.new.seat.view in
    let here = (goal.at.returns-clause-stand c).Else-not-own_if_single in
    let o = owned here x u ts h.refs over in
    let z = c.change_linked-changed.ensures.link (entry_of x 1 0) u (leads here x u ts h.refs over) over.is_item in
    let l = leaf-changed v w y c.args.leaf x u z.0 o over.first c.known-2.ensures z.1 z.3 in
    let live = c.publish.ensures.view (with_link 0 (Link.to z.0) (entry_of x 1 0)) (set (children x) 0 z.0) z.1 refl l.links in (
      live.0,
      z.0,
      stand-again c.args.rows.now c.args.seat.now c.publish.new.seat c.args.chain.now c.args.leaf live.0 (x ∷ ts) ts rs h o.away
          (c.publish.ensures.same.0 ∙ c.change_linked-changed.ensures.same.0 ∙ c.own_if_single.ensures.same.0)
          (live-again v w y c.publish.new.seat.view c.args.leaf x live.0 ts h.refs over.here o c.change_linked-changed.ensures.only live.2),
      record {
        here = live.1.here;
        is_leaf = live.1.kind ∙ over.is_leaf;
        first = ap (λ us. get_elem? us 0) live.1.below ∙ l.first;
        below = z.2;
        is_item = z.3;
      },
      z.4,
    )

pub returns-clause-same_seat : goal.returns-clause-same_seat
returns-clause-same_seat c =
    let g = c.requires.stand in
    let v : SeatView = c.args.seat.now.view in
    let w : SeatView = c.own_if_single.new.seat.view in
    let y : SeatView = c.change_linked-changed.new.seat.view in
    let here = (goal.at.returns-clause-same_seat c).Else-not-own_if_single in
    let o = owned here g.0 g.1 g.2 g.4.refs g.5 in
    let z = c.change_linked-changed.ensures.link (entry_of g.0 1 0) g.1 (leads here g.0 g.1 g.2 g.4.refs g.5) g.5.is_item in
    let l = leaf-changed v w y c.args.leaf g.0 g.1 z.0 o g.5.first c.known-2.ensures z.1 z.3 in
    let live = c.publish.ensures.view (with_link 0 (Link.to z.0) (entry_of g.0 1 0)) (set (children g.0) 0 z.0) z.1 refl l.links in
    (live-again v w y c.publish.new.seat.view c.args.leaf g.0 live.0 g.2 g.4.refs g.5.here o c.change_linked-changed.ensures.only live.2).same_seat
