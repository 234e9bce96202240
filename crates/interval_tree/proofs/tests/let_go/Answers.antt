use Rattle.std.proofs.Common.{◌≡◌, ℕ, [], true, ap, sym, subst, ◌∙◌, arith}
use mathlib.Core.Option.{some}
use Rattle.row_pool.specs.Trees.{Entry}
use Rattle.row_pool.specs.Lists.{find, mem}
use Rattle.row_pool.specs.Chains.{IsChain}
use Rattle.row_pool.specs.SeatView.{SeatView}
use Rattle.row_pool.specs.Changes.{tree_of}
use Rattle.interval_tree.specs.Trees.{beside}
use Rattle.interval_tree.proofs.TestGrowing.{refs-few, let-go, first-dropped, second-dropped, chain-held}
use Rattle.interval_tree.proofs.tests.let_go.Goals as goal

pub snapshot-requires-clause-few : goal.snapshot-requires-clause-few
snapshot-requires-clause-few c =
    let (n, g) = c.requires.growing in
    let b = refs-few c.args.seat.now.view c.args.tree.now g.items [] g.keeps g.shots g.no_more in omega arith

pub drop_ref-requires-clause-reference : goal.drop_ref-requires-clause-reference
drop_ref-requires-clause-reference c =
    let (n, g) = c.requires.growing in
    first-dropped c.args.seat.now.view c.snapshot.new.seat.view c.args.tree.now c.in-Some.root g.items g.keeps
    (sym c.snapshot.ensures.root ∙ c.in-Some.is) (c.snapshot.ensures.reference c.in-Some.root c.in-Some.is)

pub drop_ref-requires-clause-chain : goal.drop_ref-requires-clause-chain
drop_ref-requires-clause-chain c =
    let (n, g) = c.requires.growing in (
      g.rows,
      chain-held c.args.seat.now.view c.snapshot.new.seat.view c.args.chain.now (tree_of c.in-Some.root c.args.seat.now.view.refs) g.rows
          (c.snapshot.ensures.reference c.in-Some.root c.in-Some.is) g.chain,
    )

pub drop_ref-requires-in-Some-clause-reference : goal.drop_ref-requires-in-Some-clause-reference
drop_ref-requires-in-Some-clause-reference c =
    let (n, g) = c.requires.growing in
    second-dropped c.args.seat.now.view c.snapshot.new.seat.view c.drop_ref.new.seat.view c.args.tree.now c.in-Some.root g.items g.keeps
    (sym c.snapshot.ensures.root ∙ c.in-Some.is) (c.snapshot.ensures.reference c.in-Some.root c.in-Some.is) c.drop_ref.ensures.refs

pub drop_ref-requires-in-Some-clause-chain : goal.drop_ref-requires-in-Some-clause-chain
drop_ref-requires-in-Some-clause-chain c =
    let (n, g) = c.requires.growing in (
      _,
      c.drop_ref.ensures.chain.chain g.rows (chain-held c.args.seat.now.view c.snapshot.new.seat.view c.args.chain.now
          (tree_of c.in-Some.root c.args.seat.now.view.refs) g.rows (c.snapshot.ensures.reference c.in-Some.root c.in-Some.is) g.chain),
    )

pub returns-in-Some : goal.returns-in-Some
returns-in-Some c =
    let (n, g) = c.requires.growing in
    let v = c.args.seat.now.view in let p = c.snapshot.new.seat.view in
    let a = c.drop_ref.new.seat.view in let b = c.drop_ref-in-Some.new.seat.view in
    let hold = c.snapshot.ensures.reference c.in-Some.root c.in-Some.is in
    let z = let-go v p a b c.args.chain.now c.drop_ref.new.chain c.drop_ref-in-Some.new.chain c.args.tree.now c.in-Some.root g.items g.rows g.keeps
    (sym c.snapshot.ensures.root ∙ c.in-Some.is) g.no_more hold c.drop_ref.ensures.refs c.drop_ref.ensures.chain c.drop_ref-in-Some.ensures.refs
    c.drop_ref-in-Some.ensures.chain g.chain g.all in
    let one = c.drop_ref.ensures.chain.owns_more.same_seat in let two = c.drop_ref-in-Some.ensures.chain.owns_more.same_seat in
    record {
      gone = record {
        table = c.drop_ref-in-Some.ensures.same.0 ∙ c.drop_ref.ensures.same.0 ∙ c.snapshot.ensures.table ∙ g.table;
        first = two.number ∙ one.number ∙ ap (λ (z : SeatView). z.number) hold ∙ g.first;
        alone = two.out ∙ one.out ∙ ap (λ (z : SeatView). z.out) hold ∙ g.alone;
        refs = z.0;
        rows = z.1.0;
        chain = z.1.1;
        all = z.1.2;
      };
    }

pub returns-in_default : goal.returns-in_default
returns-in_default c =
    let (n, g) = c.requires.growing in
    let same = c.snapshot.ensures.empty c.in_default.is in
    let v = c.args.seat.now.view in
    record {
      gone = record {
        table = c.snapshot.ensures.table ∙ g.table;
        first = ap (λ (z : SeatView). z.number) same ∙ g.first;
        alone = ap (λ (z : SeatView). z.out) same ∙ g.alone;
        refs = ap (λ (z : SeatView). z.refs) same ∙ ap (λ k. beside k v.refs) (sym (sym c.snapshot.ensures.root ∙ c.in_default.is)) ∙ g.no_more;
        rows = g.rows;
        chain = subst (λ z. IsChain z c.args.chain.now g.rows) (sym same) g.chain;
        all = subst (λ (z : SeatView). (q : ℕ) (e : Entry) → find q z.owned
            ≡ some e → mem q g.rows ≡ true) (sym same) g.all;
      };
    }
