-- The item under the first link of an owned leaf is owned, written, and goes live again.
use Rattle.std.proofs.Common.{◌≡◌, ◌≢◌, ℕ, ◌<◌, ◌≤◌, List, [], ◌∷◌, map, set, sym, refl, ap, ◌∙◌, ⊎_elim, arith}
use mathlib.Core.Option.{none, some, some-ne-none}
use lib.ListN.{get_elem?}
use Rattle.std.proofs.lemmas.List.{map-set}
use Rattle.atomic_table.proofs.Lists.{set_here, at_map}
use Rattle.row_pool.specs.Lists.{find, without}
use Rattle.row_pool.specs.Trees.{Tree, Link, Entry, children, depth}
use Rattle.row_pool.specs.SeatView.{SeatView}
use Rattle.row_pool.specs.Changes.{entry_of, put, with_link, own_linked_row, written, with_entry, published_by_link}
use Rattle.row_pool.specs.Views.{ViewInvariant, Reaches, by_link}
use Rattle.row_pool.specs.SeatState.{LinksToLive, LinksToOwned, OnlyEntryChanges, kind_of}
use Rattle.row_pool.proofs.Sums.{find-else, find-without}
use Rattle.row_pool.proofs.Seats.{same_or, find-here, find-put, each_set}
use Rattle.row_pool.proofs.Words.{at-length}
use Rattle.row_pool.proofs.Laws.{depth-below}
use Rattle.row_pool.proofs.TestSeats.{OwnsNewest}
use Rattle.row_pool.proofs.TestLeaves.{item-shallow}

-- the row r of the item u, to which the first link of the leaf q leads, is owned
pub record OwnsLinked (v w : SeatView) (r q : ℕ) (d : Entry) (u : Tree) : Type 0 where
  pub move : w ≡ own_linked_row u r q 0 d v
  pub distinct : r ≢ q
  pub away : find r v.owned ≡ none
  pub has : find r w.owned ≡ some (entry_of u 0 1)
  pub leads : find q w.owned ≡ some (with_link 0 (Link.own r) d)
  pub some_kind : 0 < kind_of u
  pub shallow : (k : ℕ) (t : Tree) → get_elem? (children u) k ≡ some t → depth t ≤ 3

pub owns-linked : (v w : SeatView) (r q : ℕ) (d : Entry) (u : Tree) → ViewInvariant v → LinksToLive v r q 0 d u → w ≡ own_linked_row u r q 0 d v
    → OwnsLinked v w r q d u
owns-linked v w r q d u h link move =
    let up : Reaches v u = by_link q d 0 link.0 link.1 in
    let away : find r v.owned ≡ none = h.apart r u up link.2 in
    let distinct : r ≢ q = λ z. some-ne-none d (sym link.0 ∙ ap (λ q. find q v.owned) (sym z) ∙ away) in
    let shape = h.trees u up (omega arith) in
    let owned : List (ℕ × Entry) = put r (entry_of u 0 1) v.owned in
    let l : Entry = with_link 0 (Link.own r) d in
    record {
      move = move;
      distinct = distinct;
      away = away;
      has = ap (λ (v : SeatView). find r v.owned) move ∙ sym (find-put r q l owned distinct) ∙ find-here r (entry_of u 0 1) v.owned;
      leads = ap (λ (v : SeatView). find q v.owned) move ∙ find-here q l owned;
      some_kind = shape.some_kind;
      shallow = λ k t e. let a = depth-below u t k e in let b = shape.shallow in omega arith;
    }

set-over : {A : Type 0} (ls : List A) (a b : A) → set (set ls 0 a) 0 b ≡ set ls 0 b
set-over [] a b = refl
set-over (l ∷ ls) a b = refl

-- its word 5 was written
pub record LinkedWritten (v w x : SeatView) (r q n : ℕ) (d : Entry) (u : Tree) : Type 0 where
  pub owns : OwnsLinked v w r q d u
  pub move : x ≡ with_entry r (written 5 n (entry_of u 0 1)) w
  pub has : find r x.owned ≡ some (written 5 n (entry_of u 0 1))
  pub leads : LinksToOwned x r q 0 (with_link 0 (Link.own r) d)

pub linked-written : (v w x : SeatView) (r q n : ℕ) (d : Entry) (u : Tree) → OwnsLinked v w r q d u → get_elem? d.links 0 ≡ some (Link.to u)
    → x ≡ with_entry r (written 5 n (entry_of u 0 1)) w → LinkedWritten v w x r q n d u
linked-written v w x r q n d u owns first move =
    let e : Entry = written 5 n (entry_of u 0 1) in
    record {
      owns = owns;
      move = move;
      has = ap (λ (v : SeatView). find r v.owned) move ∙ find-here r e w.owned;
      leads = (
        ap (λ (v : SeatView). find q v.owned) move ∙ sym (find-put q r e w.owned (λ z. owns.distinct (sym z))) ∙ owns.leads,
        set_here d.links 0 (Link.own r) (at-length d.links 0 (Link.to u) first),
      );
    }

-- it goes live again as the tree t: of the view only the leaf's entry changes
pub linked-again : (v w x y : SeatView) (r q n : ℕ) (d : Entry) (u t : Tree) → LinkedWritten v w x r q n d u
    → y ≡ published_by_link r t q 0 (with_link 0 (Link.own r) d) x
    → OnlyEntryChanges q v y × (find q y.owned ≡ some (with_link 0 (Link.to t) d))
linked-again v w x y r q n d u t written_row move =
    let own = written_row.owns in
    let wrote = written_row.move in
    let l : Entry = with_link 0 (Link.own r) d in
    let e : Entry = written 5 n (entry_of u 0 1) in
    let owned : List (ℕ × Entry) = put r (entry_of u 0 1) v.owned in
    let now : (p : ℕ) → p ≢ q → p ≢ r → find p y.owned ≡ find p v.owned = λ p nq nr. ap (λ (v : SeatView). find p v.owned) move
    ∙ sym (find-put p q (with_link 0 (Link.to t) l) (without r x.owned) nq) ∙ find-else p r x.owned nr ∙ ap (λ (v : SeatView). find p v.owned) wrote
    ∙ sym (find-put p r e w.owned nr) ∙ ap (λ (v : SeatView). find p v.owned) own.move ∙ sym (find-put p q l owned nq)
    ∙ sym (find-put p r (entry_of u 0 1) v.owned nr) in (
      record {
        same_seat = record {
          number = ap (λ (v : SeatView). v.number) move ∙ ap (λ (v : SeatView). v.number) wrote ∙ ap (λ (v : SeatView). v.number) own.move;
          out = ap (λ (v : SeatView). v.out) move ∙ ap (λ (v : SeatView). v.out) wrote ∙ ap (λ (v : SeatView). v.out) own.move;
          size = ap (λ (v : SeatView). v.size) move ∙ ap (λ (v : SeatView). v.size) wrote ∙ ap (λ (v : SeatView). v.size) own.move;
        };
        refs = ap (λ (v : SeatView). v.refs) move ∙ ap (λ (v : SeatView). v.refs) wrote ∙ ap (λ (v : SeatView). v.refs) own.move;
        others = λ p nq. ⊎_elim (λ z. ap (λ (v : SeatView). find p v.owned) move ∙ sym (find-put p q (with_link 0 (Link.to t) l) (without r x.owned) nq)
            ∙ ap (λ p. find p (without r x.owned)) z ∙ find-without r x.owned ∙ sym (ap (λ p. find p v.owned) z ∙ own.away)) (now p nq) (same_or p r);
      },
      ap (λ (v : SeatView). find q v.owned) move ∙ find-here q (with_link 0 (Link.to t) l) (without r x.owned)
          ∙ ap (λ ls. some (record { kind = d.kind; own = d.own; linked = d.linked; links = ls; known = d.known }))
          (set-over d.links (Link.own r) (Link.to t)),
    )

-- the owned leaf x, whose first link leads to the item z by now
pub record LeafChanged (y : SeatView) (q : ℕ) (x z : Tree) : Type 0 where
  pub has : find q y.owned ≡ some (with_link 0 (Link.to z) (entry_of x 1 0))
  pub links : set (map Link.to (children x)) 0 (Link.to z) ≡ map Link.to (set (children x) 0 z)
  pub first : get_elem? (set (children x) 0 z) 0 ≡ some z
  pub shallow : (k : ℕ) (t : Tree) → get_elem? (set (children x) 0 z) k ≡ some t → depth t ≤ 3

pub leaf-changed : (v w y : SeatView) (q : ℕ) (x u z : Tree) → OwnsNewest v w q x → get_elem? (children x) 0 ≡ some u → ViewInvariant y
    → find q y.owned ≡ some (with_link 0 (Link.to z) (entry_of x 1 0)) → kind_of z ≡ 1 → LeafChanged y q x z
leaf-changed v w y q x u z own at h has is =
    let some_link = at-length (children x) 0 u at in
    let links : set (map Link.to (children x)) 0 (Link.to z) ≡ map Link.to (set (children x) 0 z) = sym (map-set Link.to (children x) 0 z) in
    let first = set_here (children x) 0 z some_link in
    let up : Reaches y z = by_link q (with_link 0 (Link.to z) (entry_of x 1 0)) 0 has
    (ap (λ ls. get_elem? ls 0) links ∙ at_map Link.to (set (children x) 0 z) 0 z first) in
    record {
      has = has;
      links = links;
      first = first;
      shallow = each_set (λ _ t. depth t ≤ 3) (children x) 0 z (let a = item-shallow y z h up is in omega arith) (λ k t _ e. own.shallow k t e);
    }
