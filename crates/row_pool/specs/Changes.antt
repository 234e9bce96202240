-- How the view of a seat changes by its calls.
use Rattle.std.specs.Prelude.{◌≡◌, ℕ, zero, suc, List, [], ◌∷◌, ◌++◌, map, slice_index, slice_set, replicate, cond}
use Rattle.std.specs.Prelude.{eqb}
use mathlib.Core.Option.{some}
use Rattle.row_pool.specs.Lists.{find, without}
use Rattle.row_pool.specs.Trees.{Tree, nil, row, Link, tree_word, words_of, children, Entry}
use Rattle.row_pool.specs.SeatView.{SeatView}
use Rattle.row_pool.specs.Layout.{link_count, first_link, IsContent, next_of}
use Rattle.row_pool.specs.Caps.{row_count}
use Rattle.row_pool.specs.Numbers.{next_number, without_first}

-- the trees without the first one of the row r
abbrev pub without_tree : ℕ → List Tree → List Tree
without_tree r [] = []
without_tree r (t ∷ ts) = cond (eqb (tree_word t) (suc r)) ts (t ∷ without_tree r ts)

-- the words u to u + m - 1 of a row are known to hold 0
unfoldable pub zeros : ℕ → ℕ → List (ℕ × ℕ)
zeros u zero = []
zeros u (suc m) = (u, 0) ∷ zeros (suc u) m

-- what is known of a row that was never used; its word 1 holds y
abbrev pub free_entry : ℕ → Entry
free_entry y = record { kind = 0; own = 0; linked = 0; links = []; known = (1, y) ∷ zeros 2 65 }

-- the rows from k on, all free and in one chain
unfoldable pub free_from : ℕ → ℕ → ℕ → List (ℕ × Entry)
free_from n k zero = []
free_from n k (suc m) = (k, free_entry (next_of n k)) ∷ free_from n (suc k) m

-- the first view of a pool of n rows: it owns all of them, and they are free
abbrev pub fresh : ℕ → SeatView
fresh n = record { refs = []; owned = free_from n 0 n; number = 1; out = []; size = n }

-- a reference more
abbrev pub with_ref : Tree → SeatView → SeatView
with_ref t v = record { refs = t ∷ v.refs; owned = v.owned; number = v.number; out = v.out; size = v.size }

-- a reference less
abbrev pub without_ref : ℕ → SeatView → SeatView
without_ref r v = record { refs = without_tree r v.refs; owned = v.owned; number = v.number; out = v.out; size = v.size }

abbrev pub numbered : ℕ → List ℕ → List (ℕ × ℕ)
numbered k [] = []
numbered k (x ∷ xs) = (k, x) ∷ numbered (suc k) xs

-- the row of a tree once it is owned
abbrev pub entry_of : Tree → ℕ → ℕ → Entry
entry_of t own linked = record {
  kind = slice_index (words_of t) 1;
  own = own;
  linked = linked;
  links = map Link.to (children t);
  known = numbered 0
      (words_of t);
}

-- the table with this entry for the row r, and no other for it
abbrev pub put : ℕ → Entry → List (ℕ × Entry) → List (ℕ × Entry)
put r e ps = (r, e) ∷ without r ps

-- the last reference to the tree's row, given up for the row itself
abbrev pub own_row : Tree → ℕ → ℕ → SeatView → SeatView
own_row t r own v = record { refs = without_tree r v.refs; owned = put r (entry_of t own 0) v.owned; number = v.number; out = v.out; size = v.size }

-- known words, of which one was written
abbrev pub with_known : ℕ → ℕ → List (ℕ × ℕ) → List (ℕ × ℕ)
with_known w y known = (w, y) ∷ without w known

unfoldable pub nil_links : ℕ → List Link
nil_links n = replicate n (Link.to nil)

-- the entry of an owned row in place of the one before
abbrev pub with_entry : ℕ → Entry → SeatView → SeatView
with_entry r e v = record { refs = v.refs; owned = put r e v.owned; number = v.number; out = v.out; size = v.size }

-- the entry where word w holds y and is known
abbrev pub written : ℕ → ℕ → Entry → Entry
written w y e = record { kind = e.kind; own = e.own; linked = e.linked; links = e.links; known = with_known w y e.known }

-- a free row that becomes an item or a node
abbrev pub turned_into : ℕ → Entry → Entry
turned_into kind e = record { kind = kind; own = e.own; linked = e.linked; links = nil_links (link_count kind); known = with_known 1 kind e.known }

abbrev pub with_link : ℕ → Link → Entry → Entry
with_link k l e = record { kind = e.kind; own = e.own; linked = e.linked; links = slice_set e.links k l; known = e.known }

-- the references where a link gave its tree back
abbrev pub with_old_target : Tree → List Tree → List Tree
with_old_target nil ts = ts
with_old_target (row r c ks) ts = row r c ks ∷ ts

-- the references where a link took one of them
abbrev pub without_target : Tree → List Tree → List Tree
without_target nil ts = ts
without_target (row r c ks) ts = without_tree r ts

-- the link k of the row r goes from the tree `from` to the tree `goal`
abbrev pub relinked : ℕ → Entry → ℕ → Tree → Tree → SeatView → SeatView
relinked r e k from goal v = record {
  refs = with_old_target from (without_target goal v.refs);
  owned = put r (with_link k (Link.to goal) e) v.owned;
  number = v.number;
  out = v.out;
  size = v.size;
}

-- an owned row that nothing else links to goes live, and the seat has the one reference to it
abbrev pub published : ℕ → Tree → SeatView → SeatView
published r t v = record { refs = t ∷ v.refs; owned = without r v.owned; number = v.number; out = v.out; size = v.size }

-- what the owner of a row with this entry and with links to the trees `us` knows of the tree that it is to stand for
pub record Becomes (r : ℕ) (e : Entry) (us : List Tree) (t : Tree) : Type 0 where
  pub here : tree_word t ≡ suc r
  pub below : children t ≡ us
  pub kind : slice_index (words_of t) 1 ≡ e.kind
  pub known : (w n : ℕ) → IsContent e.kind w → find w e.known ≡ some n → slice_index (words_of t) w ≡ n

-- A live row t to which the link k of the owned row q alone leads is owned, and the link leads to an own row
abbrev pub own_linked_row : Tree → ℕ → ℕ → ℕ → Entry → SeatView → SeatView
own_linked_row t r q k d v = record {
  refs = v.refs;
  owned = put q (with_link k (Link.own r) d) (put r (entry_of t 0 1) v.owned);
  number = v.number;
  out = v.out;
  size = v.size;
}

-- an owned row to which the link k of the owned row q leads goes live
abbrev pub published_by_link : ℕ → Tree → ℕ → ℕ → Entry → SeatView → SeatView
published_by_link r t q k d v = record {
  refs = v.refs;
  owned = put q (with_link k (Link.to t) d) (without r v.owned);
  number = v.number;
  out = v.out;
  size = v.size;
}

-- the first tree of the row r, or nothing
abbrev pub tree_of : ℕ → List Tree → Tree
tree_of r [] = nil
tree_of r (t ∷ ts) = cond (eqb (tree_word t) (suc r)) t (tree_of r ts)

-- the references that are left where those to the rows `rs` are gone
abbrev pub without_trees : List ℕ → List Tree → List Tree
without_trees [] ts = ts
without_trees (r ∷ rs) ts = without_trees rs (without_tree r ts)

-- the references to the rows `rs`
abbrev pub picked : List ℕ → List Tree → List Tree
picked [] ts = []
picked (r ∷ rs) ts = tree_of r ts ∷ picked rs (without_tree r ts)

-- each of these rows, as often as it stands there, has a reference
abbrev pub HasRefs : List ℕ → List Tree → Type 0
HasRefs [] ts = Unit {0}
HasRefs (r ∷ rs) ts = (tree_word (tree_of r ts) ≡ suc r) × HasRefs rs (without_tree r ts)

-- the references to the rows `rs` go to a new seat; its cap is the number of rows in their trees
abbrev pub split_off : List ℕ → SeatView → SeatView
split_off rs v = record { refs = picked rs v.refs; owned = []; number = next_number v.out; out = []; size = v.size }

-- what the first seat has left then
abbrev pub remaining : List ℕ → SeatView → SeatView
remaining rs v = record {
  refs = without_trees rs v.refs;
  owned = v.owned;
  number = v.number;
  out = (next_number v.out, row_count v.size (split_off rs v)) ∷ v.out;
  size = v.size;
}

-- the first seat takes in another
abbrev pub joined : SeatView → SeatView → SeatView
joined v w = record { refs = v.refs ++ w.refs; owned = v.owned ++ w.owned; number = v.number; out = without_first w.number v.out; size = v.size }

-- a seat that was joined into another
abbrev pub spent : SeatView
spent = record { refs = []; owned = []; number = 0; out = []; size = 0 }

-- what a link word means among these references
abbrev pub target_of : ℕ → List Tree → Tree
target_of zero ts = nil
target_of (suc r) ts = tree_of r ts

-- A row whose links are all empty goes free; its word 1 links it to the next of a chain. The words that were links are known to hold 0
abbrev pub freed : ℕ → Entry → Entry
freed y e = record { kind = 0; own = e.own; linked = e.linked; links = []; known = with_known 1 y (zeros (first_link e.kind) (link_count e.kind)) }
