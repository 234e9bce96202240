use Rattle.std.proofs.Common.{◌≡◌, suc, List, ◌∷◌, length, replicate, ap, ◌∙◌, inl, arith}
use lib.ListN.{get_elem?}
use Rattle.row_pool.specs.Trees.{Tree, nil, tree_word}
use Rattle.row_pool.specs.Changes.{tree_of}
use Rattle.row_pool.proofs.NewestRef.{tree_of-first}
use Rattle.row_pool.proofs.TestSeats.{first-up, went-live}
use Rattle.row_pool.proofs.TestLeaves.{first-link, leaf-depths, LeafLinked, leaf-linked}
use Rattle.row_pool.proofs.tests.leaf_goes_live.Goals.{After-link}
use Rattle.row_pool.proofs.tests.leaf_goes_live.Goals as goal

-- the row with its link
linked : (c : After-link) (t : Tree) (ts : List Tree) → c.args.seat.now.view.refs ≡ t ∷ ts → tree_word t ≡ suc c.args.item
    → LeafLinked c.args.row t ts c.args.seat.now.view c.link.new.seat.view
linked c t ts refs is =
    let e = c.requires.free_row in
    let o = c.start_node.ensures.node e.0 e.1 in
    leaf-linked c.args.seat.now.view c.start_node.new.seat.view c.link.new.seat.view c.args.row c.args.item e.0 o.0 t ts refs is e.3
    c.start_node.ensures.only o.2 (c.link.ensures.view o.0 nil 0 (first-link c.start_node.new.seat.view c.args.row e.0 o.0 o.1 o.2))

pub link-requires-clause-link : goal.link-requires-clause-link
link-requires-clause-link c =
    let e = c.requires.free_row in
    let o = c.start_node.ensures.node e.0 e.1 in
    (o.0, nil, 0, first-link c.start_node.new.seat.view c.args.row e.0 o.0 o.1 o.2)

pub link-requires-clause-target : goal.link-requires-clause-target
link-requires-clause-target c =
    let g = c.requires.reference in
    ap (λ ts. tree_word (tree_of c.args.item ts)) (c.start_node.ensures.only.refs ∙ g.2) ∙ ap tree_word (tree_of-first c.args.item g.0 g.1 g.3) ∙ g.3

pub publish-requires-clause-whole : goal.publish-requires-clause-whole
publish-requires-clause-whole c =
    let g = c.requires.reference in
    let l = linked (goal.at.publish-requires-clause-whole c).After-link g.0 g.1 g.2 g.3 in (
      l.entry,
      g.0 ∷ replicate 63 nil,
      l.has,
      let z = l.kind in omega arith,
      l.links,
      leaf-depths c.args.seat.now.view g.0 63 c.known.ensures (first-up c.args.seat.now.view g.0 g.1 g.2) g.4,
      inl l.unlinked,
    )

pub publish-requires-clause-room : goal.publish-requires-clause-room
publish-requires-clause-room c = λ _ _ _.
    let g = c.requires.reference in
    let l = linked (goal.at.publish-requires-clause-room c).After-link g.0 g.1 g.2 g.3 in
    let z = ap length l.refs in
    let y = ap length g.2 in
    let few = c.known.ensures.few in omega arith

pub returns-clause-live : goal.returns-clause-live
returns-clause-live c = λ t ts refs is.
    let l = linked (goal.at.returns-clause-live c).After-link t ts refs is in
    let live = c.publish.ensures.view l.entry (t ∷ replicate 63 nil) l.has l.unlinked l.links in (
      live.0,
      live.1.here,
      live.1.kind ∙ l.kind,
      ap (λ us. get_elem? us 0) live.1.below,
      went-live c.args.seat.now.view c.link.new.seat.view c.publish.new.seat.view c.args.row live.0 ts l.refs l.others l.same_seat live.2,
    )
