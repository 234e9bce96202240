-- The latches of the request that began last, among the held ones: who leaves them out sees what was held before.
use Rattle.std.proofs.Common.{◌≡◌, ℕ, ◌+◌, ◌<◌, ◌≤◌, ◌==◌, ◌&&◌, Bool, true, false, not, cond, List, [], ◌∷◌, ◌++◌, refl, sym, ap, ◌∙◌, arith, inl, inr}
use Rattle.std.proofs.lemmas.Bool.{eq-eqb, ne_eqb}
use Rattle.span_key.specs.declared.scopes.Scope.TheVariants.{Global, Local}
use Rattle.latch_model.specs.Histories.{HeldLatch, Snapshot, comes_first, in_order, with_latch}
use Rattle.latch_model.specs.Latches.{has_access, in_scope}
use Rattle.latch_model.specs.declared.latch.Access.TheVariants.{Read, Write}
use Rattle.latch_model.specs.declared.latch.Latch.{Latch}
use Rattle.latch_model.proofs.SnapshotOrder.{filter-in_order}
use Rattle.latch_item.specs.Items.{Item}
use Rattle.latch_shots.specs.Held.{held_as, held_in, others}
use Rattle.held_latches.specs.Content.{Content, EachOf, IsIn, held_of, items_in, placed_items, read_items}
use Rattle.held_latches.specs.Holding.{EachHeld, own_latch}
use Rattle.held_latches.specs.Lists.{inserted, own_from, with_held, with_if, without_by}
use Rattle.held_latches.specs.Stock.{Placed}
use Rattle.held_latches.proofs.Contents.{each-append}
use Rattle.held_latches.proofs.Keeping.{each-item, each-placed}

-- ---- a list with one more latch
each-with : (P : HeldLatch → Type 0) (x : HeldLatch) (ys : List HeldLatch) → P x → EachOf P ys → EachOf P (with_latch x ys)
each-with P x [] p h = (p, tt)
each-with P x (y ∷ ys) p h = by (comes_first y x) (each-with P x ys p h.1)
  where
    by : (t : Bool) → EachOf P (with_latch x ys) → EachOf P (cond t (y ∷ with_latch x ys) (x ∷ y ∷ ys))
    by true later = (h.0, later)
    by false later = (p, h)

each-if : (P : HeldLatch → Type 0) (there : Bool) (x : HeldLatch) (ys : List HeldLatch) → P x → EachOf P ys → EachOf P (with_if there x ys)
each-if P true x ys p h = each-with P x ys p h
each-if P false x ys p h = h

others-with : (id : ℕ) (x : HeldLatch) (ys : List HeldLatch) → x.by ≡ id → others id (with_latch x ys) ≡ others id ys
others-with id x [] e = ap (λ b. cond (not b) (x ∷ []) []) (eq-eqb x.by id e)
others-with id x (y ∷ ys) e = by (comes_first y x) (others-with id x ys e)
  where
    by : (t : Bool) → others id (with_latch x ys) ≡ others id ys → others id (cond t (y ∷ with_latch x ys) (x ∷ y ∷ ys)) ≡ others id (y ∷ ys)
    by true later = ap (λ zs. cond (not (y.by == id)) (y ∷ zs) zs) later
    by false later = ap (λ b. cond (not b) (x ∷ others id (y ∷ ys)) (others id (y ∷ ys))) (eq-eqb x.by id e)

others-if : (id : ℕ) (there : Bool) (x : HeldLatch) (ys : List HeldLatch) → x.by ≡ id → others id (with_if there x ys) ≡ others id ys
others-if id true x ys e = others-with id x ys e
others-if id false x ys e = refl

others-all : (id : ℕ) (ys : List HeldLatch) → EachOf (λ y. y.by < id) ys → others id ys ≡ ys
others-all id [] h = refl
others-all id (y ∷ ys) h =
    ap (λ b. cond (not b) (y ∷ others id ys) (others id ys)) (ne_eqb y.by id (λ e. let low = h.0 in omega arith)) ∙ ap (λ zs. y ∷ zs) (others-all id ys h.1)

-- ---- the lists with the latches of the last request
pub each-own : (id lane n : ℕ) (ls : List Latch) (s : Snapshot) → EachHeld (λ x. x.by ≤ id) s → EachHeld (λ x. x.by ≤ id) (inserted (own_from id lane n ls) s)
each-own id lane n [] s h = h
each-own id lane n (l ∷ ls) s h =
    let P = λ (x : HeldLatch). x.by ≤ id in let x = own_latch id lane n l in let t = inserted (own_from id lane (n + 1) ls) s in
    let rest = each-own id lane (n + 1) ls s h in let last : id ≤ id = omega arith in (
      each-if P (in_scope Global x.latch && has_access Read x.latch) x t.global_reads last rest.0,
      each-if P (in_scope Global x.latch && has_access Write x.latch) x t.global_writes last rest.1,
      each-if P (in_scope Local x.latch && has_access Read x.latch) x t.local_reads last rest.2,
      each-if P (in_scope Local x.latch && has_access Write x.latch) x t.local_writes last rest.3,
    )

without-one : (id : ℕ) (x : HeldLatch) (t : Snapshot) → x.by ≡ id → without_by id (with_held x t) ≡ without_by id t
without-one id x t e = λ i. record {
  global_reads = others-if id (in_scope Global x.latch && has_access Read x.latch) x t.global_reads e i;
  global_writes = others-if id (in_scope Global x.latch && has_access Write x.latch) x t.global_writes e i;
  local_reads = others-if id (in_scope Local x.latch && has_access Read x.latch) x t.local_reads e i;
  local_writes = others-if id (in_scope Local x.latch && has_access Write x.latch) x t.local_writes e i;
}

without-each : (id lane n : ℕ) (ls : List Latch) (s : Snapshot) → without_by id (inserted (own_from id lane n ls) s) ≡ without_by id s
without-each id lane n [] s = refl
without-each id lane n (l ∷ ls) s = without-one id (own_latch id lane n l) (inserted (own_from id lane (n + 1) ls) s) refl ∙ without-each id lane (n + 1) ls s

-- without them the lists are as before
pub without-own : (id lane n : ℕ) (ls : List Latch) (s : Snapshot) → EachHeld (λ x. x.by < id) s → without_by id (inserted (own_from id lane n ls) s) ≡ s
without-own id lane n ls s h = without-each id lane n ls s ∙ all
  where
    all : without_by id s ≡ s
    all = λ i. record {
      global_reads = others-all id s.global_reads h.0 i;
      global_writes = others-all id s.global_writes h.1 i;
      local_reads = others-all id s.local_reads h.2 i;
      local_writes = others-all id s.local_writes h.3 i;
    }

-- ---- what is pending behind the last writer is that request's own, so the tree has all others
own-left-out : (own : ℕ) (ps : List Placed) → ((p : Placed) → IsIn p ps → p.item.id ≡ own) → others own (held_of Read (placed_items ps)) ≡ []
own-left-out own [] h = refl
own-left-out own (p ∷ ps) h =
    let rest = others own (held_of Read (placed_items ps)) in
    ap (λ b. cond (not b) (held_as Read p.item ∷ rest) rest) (eq-eqb p.item.id own (h p (inl refl))) ∙ own-left-out own ps (λ q m. h q (inr m))

own-dropped : (own : ℕ) (ys : List Item) (ps : List Placed) → ((p : Placed) → IsIn p ps → p.item.id ≡ own)
    → others own (held_of Read (ys ++ placed_items ps)) ≡ others own (held_of Read ys)
own-dropped own [] ps h = own-left-out own ps h
own-dropped own (y ∷ ys) ps h = ap (λ zs. cond (not (y.id == own)) (held_as Read y ∷ zs) zs) (own-dropped own ys ps h)

pub reads-of-others : (own : ℕ) (xs : List HeldLatch) (c : Content) → xs ≡ in_order (held_of Read (read_items c)) → EachOf (λ x. x.by ≤ own) xs
    → ((p : Placed) → IsIn p c.pending → own ≤ p.item.id) → in_order (held_of Read (items_in c.reads)) ≡ held_in Read c.reads
    → others own xs ≡ others own (held_in Read c.reads)
reads-of-others own xs c is upto late shown =
    ap (others own) is
    ∙ (filter-in_order (λ x. not (x.by == own)) (held_of Read (read_items c))
    ∙ (ap in_order (own-dropped own (items_in c.reads) c.pending just)
    ∙ (sym (filter-in_order (λ x. not (x.by == own)) (held_of Read (items_in c.reads))) ∙ ap (others own) shown)))
  where
    just : (p : Placed) → IsIn p c.pending → p.item.id ≡ own
    just p m =
        let each = each-item (λ x. x.by ≤ own) (λ x. x.id ≤ own) Read xs (read_items c) (λ y low. low) is upto in
        let low = each-placed (λ x. x.id ≤ own) c.pending (each-append (λ x. x.id ≤ own) (items_in c.reads) (placed_items c.pending) each).1 p m in
        let high = late p m in
        omega arith
