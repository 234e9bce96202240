-- What each step tells. A step names its word; the row and the place in it are whichever two numbers give it.
use Rattle.std.specs.Prelude.{◌≡◌, ℕ, suc, ◌+◌, ◌*◌, ◌<◌, ◌≤◌, List, [], map, slice_index}
use mathlib.Core.Option.{some}
use lib.ListN.{get_elem?}
use Rattle.atomic_table.specs.Table.{Step, Me}
use Rattle.row_pool.specs.Lists.{find}
use Rattle.row_pool.specs.Trees.{Tree, Link, link_word, Entry, tree_word, words_of}
use Rattle.row_pool.specs.SeatView.{SeatView}
use Rattle.row_pool.specs.Layout.{first_link, IsContent}
use Rattle.row_pool.specs.Changes.{Becomes, with_ref, without_ref, own_row, with_entry, written, turned_into, relinked}
use Rattle.row_pool.specs.Changes.{published, own_linked_row, published_by_link, target_of, freed}
use Rattle.row_pool.specs.Views.{Reaches, Alone, ViewInvariant}

-- the step is on word w of the row r
abbrev pub At : {S : Type 0} → Step S → ℕ → ℕ → Type 0
At st r w = (w < 80) × (st.word ≡ r * 80 + w)

-- what each step leaves as it was
pub record Unchanged {S : Type 0} (me now : Me S SeatView) : Type 0 where
  pub kept : now.1 ≡ me.1
  pub sound : ViewInvariant now.0
  pub number : now.0.number ≡ me.0.number
  pub size : now.0.size ≡ me.0.size

-- a load of a word
pub record Reads {S : Type 0} (st : Step S) (me : Me S SeatView) (n : ℕ) (now : Me S SeatView) : Type 0 where
  pub same : now ≡ me
  pub unchanged : Unchanged me now
  pub tree : (r w : ℕ) (t : Tree) → At st r w → 1 ≤ w → tree_word t ≡ suc r → Reaches me.0 t → n ≡ slice_index (words_of t) w
  pub known : (r w m : ℕ) (e : Entry) → At st r w → find r me.0.owned ≡ some e → IsContent e.kind w → find w e.known ≡ some m → n ≡ m
  pub link : (r k : ℕ) (e : Entry) (l : Link) → At st r (first_link e.kind + k) → find r me.0.owned ≡ some e → get_elem? e.links k ≡ some l → n ≡ link_word l

-- a reference more
pub record Holds {S : Type 0} (st : Step S) (me : Me S SeatView) (n : ℕ) (now : Me S SeatView) : Type 0 where
  pub unchanged : Unchanged me now
  pub more : (r : ℕ) (t : Tree) → At st r 0 → tree_word t ≡ suc r → Reaches me.0 t → now.0 ≡ with_ref t me.0

-- a reference less; where it was the last, the row is owned
pub record Drops {S : Type 0} (st : Step S) (me : Me S SeatView) (n : ℕ) (now : Me S SeatView) : Type 0 where
  pub unchanged : Unchanged me now
  pub last : (r k : ℕ) (t : Tree) → At st r 0 → tree_word t ≡ suc r → get_elem? me.0.refs k ≡ some t → n ≡ 1 → now.0 ≡ own_row t r 0 me.0
  pub less : (r k : ℕ) (t : Tree) → At st r 0 → tree_word t ≡ suc r → get_elem? me.0.refs k ≡ some t → 1 < n → now.0 ≡ without_ref r me.0
  pub any : 1 ≤ n

-- where the count is 1 the reference, or the one link that leads there, is given up for the row
pub record Owns {S : Type 0} (st : Step S) (me : Me S SeatView) (n : ℕ) (now : Me S SeatView) : Type 0 where
  pub unchanged : Unchanged me now
  pub single : (r k : ℕ) (t : Tree) → At st r 0 → tree_word t ≡ suc r → get_elem? me.0.refs k ≡ some t → n ≡ 1 → now.0 ≡ own_row t r 1 me.0
  pub through_link : (r q k : ℕ) (t : Tree) (d : Entry) → At st r 0 → tree_word t ≡ suc r → find q me.0.owned ≡ some d
      → get_elem? d.links k ≡ some (Link.to t) → n ≡ 1
      → now.0 ≡ own_linked_row t r q k d me.0
  pub shared : (n ≡ 1 → ⊥) → now.0 ≡ me.0
  pub alone : (r : ℕ) (t : Tree) → At st r 0 → tree_word t ≡ suc r → Reaches me.0 t → me.0.number ≡ 1 → me.0.out ≡ [] → Alone r me.0 → n ≡ 1

-- a store to a counted link of an owned row
pub record Links {S : Type 0} (st : Step S) (me : Me S SeatView) (n : ℕ) (now : Me S SeatView) : Type 0 where
  pub unchanged : Unchanged me now
  pub moved : (r k : ℕ) (e : Entry) (from : Tree) → At st r (first_link e.kind + k) → find r me.0.owned ≡ some e → get_elem? e.links k ≡ some (Link.to from)
      → now.0 ≡ relinked r e k from (target_of st.first me.0.refs) me.0

-- a store to word 1 of an owned row without links
pub record Frees {S : Type 0} (st : Step S) (me : Me S SeatView) (n : ℕ) (now : Me S SeatView) : Type 0 where
  pub unchanged : Unchanged me now
  pub freed_row : (r : ℕ) (e : Entry) → At st r 1 → find r me.0.owned ≡ some e → now.0 ≡ with_entry r (freed st.first e) me.0

-- a store to a word of an owned row that is no counted link, and not the kind
pub record Writes {S : Type 0} (st : Step S) (me : Me S SeatView) (n : ℕ) (now : Me S SeatView) : Type 0 where
  pub unchanged : Unchanged me now
  pub wrote : (r w : ℕ) (e : Entry) → At st r w → find r me.0.owned ≡ some e → now.0 ≡ with_entry r (written w st.first e) me.0

-- a load of a word of an owned row, which is known from then on to hold what was loaded
pub record Notes {S : Type 0} (st : Step S) (me : Me S SeatView) (n : ℕ) (now : Me S SeatView) : Type 0 where
  pub unchanged : Unchanged me now
  pub told : (r w : ℕ) (e : Entry) → At st r w → find r me.0.owned ≡ some e → now.0 ≡ with_entry r (written w n e) me.0
  pub known : (r w m : ℕ) (e : Entry) → At st r w → find r me.0.owned ≡ some e → find w e.known ≡ some m → n ≡ m

-- a store to word 1 of a free row, which becomes an item or a node
pub record Turns {S : Type 0} (st : Step S) (me : Me S SeatView) (n : ℕ) (now : Me S SeatView) : Type 0 where
  pub unchanged : Unchanged me now
  pub turned : (r : ℕ) (e : Entry) → At st r 1 → find r me.0.owned ≡ some e → now.0 ≡ with_entry r (turned_into st.first e) me.0

-- A store of 1 to the count of an owned row. The reference is the seat's, or the link of the owned row that led there
pub record Publishes {S : Type 0} (st : Step S) (me : Me S SeatView) (n : ℕ) (now : Me S SeatView) : Type 0 where
  pub unchanged : Unchanged me now
  pub live : (r : ℕ) (e : Entry) (us : List Tree) → At st r 0 → find r me.0.owned ≡ some e → e.linked ≡ 0 → e.links ≡ map Link.to us
      → (t : Tree) × Becomes r e us t × (now.0 ≡ published r t me.0)
  pub through_link : (r q k : ℕ) (e d : Entry) (us : List Tree) → At st r 0 → find r me.0.owned ≡ some e → e.linked ≡ 1 → e.links ≡ map Link.to us
      → find q me.0.owned ≡ some d → get_elem? d.links k ≡ some (Link.own r) → (t : Tree) × Becomes r e us t × (now.0 ≡ published_by_link r t q k d me.0)

-- A load of the count of an owned row. Where it is 1 already, the row goes live as by the store
pub record PublishesCounted {S : Type 0} (st : Step S) (me : Me S SeatView) (n : ℕ) (now : Me S SeatView) : Type 0 where
  pub unchanged : Unchanged me now
  pub counted : n ≡ 1 → Publishes st me n now
  pub uncounted : (n ≡ 1 → ⊥) → now.0 ≡ me.0
