-- The lists behind a begin: the latches that its request holds come to the others.
use Rattle.std.proofs.Common.{◌≡◌, ℕ, ◌+◌, Bool, true, false, cond, List, [], ◌∷◌, ◌++◌, map, refl, sym, ap, ◌∙◌}
use Rattle.std.proofs.lemmas.Bool.{and_parts}
use Rattle.std.proofs.lemmas.Grind.{flat_map-append}
use Rattle.std.proofs.lemmas.List.{append-nil, map-append}
use Rattle.std.proofs.lemmas.List.Elements.{filter-append, filter_agree}
use Rattle.std.specs.List.{enumerate_from, filter, flat_map}
use Rattle.span_key.specs.declared.scopes.Scope.{Scope}
use Rattle.span_key.specs.declared.scopes.Scope.TheVariants.{Global, Local}
use Rattle.latch_model.specs.Histories.{Begin, HeldLatch, Snapshot, entry_of, has_ended, held, holds_latches, in_order, latches_held, latches_held_by}
use Rattle.latch_model.specs.Histories.{listed, open_begins}
use Rattle.latch_model.specs.Latches.{at_normal, has_access, in_scope}
use Rattle.latch_model.specs.declared.history.Entry.{Entry}
use Rattle.latch_model.specs.declared.latch.Access.{Access}
use Rattle.latch_model.specs.declared.latch.Access.TheVariants.{Read, Write}
use Rattle.latch_model.specs.declared.latch.Latch.{Latch}
use Rattle.latch_model.proofs.Counting.{open_begins-begun}
use Rattle.latch_model.proofs.Elements.{Each, Each-at_map, Each-filter, Each-from_In, Each-map, filter-map}
use Rattle.latch_model.proofs.Lists.{In}
use Rattle.latch_model.proofs.Members.{filter_of-In}
use Rattle.held_latches.specs.Lists.{inserted, own_from, with_held, with_if}
use Rattle.history_latches.specs.Lists.{listed_in, lists_of}
use Rattle.history_latches.specs.Logs.{to_hold}
use Rattle.history_latches.proofs.Listing.{access_is, is_of}
use Rattle.history_latches.proofs.Order.{in_order-more, put_all}
use Rattle.history_latches.proofs.Requests.{by_all}

-- the latches of a begin that are held from then on, as the history has them
abbrev begun_latches : Begin → List HeldLatch
begun_latches b = cond (holds_latches b.mode) (latches_held_by b) []

held_begun : (h : List Entry) (b : Begin) → has_ended h b.id ≡ false → latches_held (h ++ entry_of b ∷ []) ≡ latches_held h ++ begun_latches b
held_begun h b new =
    ap (λ bs. flat_map latches_held_by (filter (λ (x : Begin). holds_latches x.mode) bs)) (open_begins-begun h b new)
    ∙ (ap (flat_map latches_held_by) (filter-append (λ (x : Begin). holds_latches x.mode) (open_begins h) (b ∷ []))
    ∙ (flat_map-append latches_held_by (held h) (filter (λ (x : Begin). holds_latches x.mode) (b ∷ []))
    ∙ ap (λ xs. latches_held h ++ xs) (by (holds_latches b.mode))))
  where
    by : (t : Bool) → flat_map latches_held_by (cond t (b ∷ []) []) ≡ cond t (latches_held_by b) []
    by true = append-nil (latches_held_by b)
    by false = refl

by_own : (b : Begin) → Each (λ (x : HeldLatch). x.by ≡ b.id) (begun_latches b)
by_own b = by (holds_latches b.mode)
  where
    by : (t : Bool) → Each (λ (x : HeldLatch). x.by ≡ b.id) (cond t (latches_held_by b) [])
    by true = by_all b
    by false = tt

-- as snapshots list them
own_listed : (b : Begin) (n : ℕ) (ls : List Latch) →
    map listed (map (λ (p : ℕ × Latch). record { by = b.id; lane = b.lane; place = p.0; latch = p.1 }) (enumerate_from n ls)) ≡ own_from b.id b.lane n ls
own_listed b n [] = refl
own_listed b n (l ∷ ls) = ap (λ (xs : List HeldLatch). record { by = b.id; lane = b.lane; place = n; latch = at_normal l } ∷ xs) (own_listed b (n + 1) ls)

begun_listed : (b : Begin) → map listed (begun_latches b) ≡ own_from b.id b.lane 0 (to_hold b.mode b.request.latches)
begun_listed b = by (holds_latches b.mode)
  where
    by : (t : Bool) → map listed (cond t (latches_held_by b) []) ≡ own_from b.id b.lane 0 (cond t b.request.latches [])
    by true = own_listed b 0 b.request.latches
    by false = refl

-- latches that are put into the lists come into each list whose test they pass
inserted_in : (test : HeldLatch → Bool) (part : Snapshot → List HeldLatch) →
    ((x : HeldLatch) (s : Snapshot) → part (with_held x s) ≡ with_if (test x) x (part s)) → (xs : List HeldLatch) (s : Snapshot) →
    part (inserted xs s) ≡ put_all (filter test xs) (part s)
inserted_in test part law [] s = refl
inserted_in test part law (x ∷ xs) s = law x (inserted xs s) ∙ (ap (with_if (test x) x) (inserted_in test part law xs s) ∙ by (test x))
  where
    by : (t : Bool) → with_if t x (put_all (filter test xs) (part s)) ≡ put_all (cond t (x ∷ filter test xs) (filter test xs)) (part s)
    by true = refl
    by false = refl

-- one list with the latches of a further request
module _ (id : ℕ) (xs ys : List HeldLatch) (differ : (x : HeldLatch) → In x xs → x.by ≡ id → ⊥) (same : Each (λ (y : HeldLatch). y.by ≡ id) ys) where
  one_more : (scope : Scope) (access : Access) (part : Snapshot → List HeldLatch) →
      ((x : HeldLatch) (s : Snapshot) → part (with_held x s) ≡ with_if (is_of scope access x) x (part s)) →
      ((x : HeldLatch) → is_of scope access (listed x) ≡ is_of scope access x) → part (lists_of xs) ≡ listed_in xs scope access →
      listed_in (xs ++ ys) scope access ≡ part (inserted (map listed ys) (lists_of xs))
  one_more scope access part law stays is =
      ap (λ zs. in_order (map listed zs)) (filter-append (is_of scope access) xs ys)
      ∙ (ap in_order (map-append listed (filter (is_of scope access) xs) (filter (is_of scope access) ys))
      ∙ (in_order-more access (map listed (filter (is_of scope access) xs)) (map listed (filter (is_of scope access) ys)) (all_accessed xs) (all_accessed ys)
      all_differ
      ∙ (ap (λ zs. put_all zs (listed_in xs scope access)) (sym (filter-map listed (is_of scope access) ys
      ∙ ap (map listed) (filter_agree (λ x. is_of scope access (listed x)) (is_of scope access) stays ys)))
      ∙ (ap (put_all (filter (is_of scope access) (map listed ys))) (sym is) ∙ sym (inserted_in (is_of scope access) part law (map listed ys) (lists_of xs))))))
    where
      all_accessed : (zs : List HeldLatch) → Each (λ (x : HeldLatch). x.latch.access ≡ access) (map listed (filter (is_of scope access) zs))
      all_accessed zs = Each-at_map (λ (x : HeldLatch). x.latch.access ≡ access) listed (filter (is_of scope access) zs)
          (Each-from_In (λ (x : HeldLatch). x.latch.access ≡ access) (filter (is_of scope access) zs) (λ x there.
          access_is access x.latch (and_parts (in_scope scope x.latch) (has_access access x.latch) (filter_of-In (is_of scope access) zs x there).1).1))

      all_differ : Each (λ (y : HeldLatch). Each (λ (x : HeldLatch). x.by ≡ y.by → ⊥) (map listed (filter (is_of scope access) xs)))
          (map listed (filter (is_of scope access) ys))
      all_differ = Each-at_map (λ (y : HeldLatch). Each (λ (x : HeldLatch). x.by ≡ y.by → ⊥) (map listed (filter (is_of scope access) xs))) listed
          (filter (is_of scope access) ys)
          (Each-map (λ (y : HeldLatch). y.by ≡ id)
          (λ (y : HeldLatch). Each (λ (x : HeldLatch). x.by ≡ y.by → ⊥) (map listed (filter (is_of scope access) xs)))
          (λ y is_id. Each-at_map (λ (x : HeldLatch). x.by ≡ y.by → ⊥) listed (filter (is_of scope access) xs)
          (Each-from_In (λ (x : HeldLatch). x.by ≡ y.by → ⊥) (filter (is_of scope access) xs) (λ x there e.
          differ x (filter_of-In (is_of scope access) xs x there).0 (e ∙ is_id)))) (filter (is_of scope access) ys)
          (Each-filter (λ (y : HeldLatch). y.by ≡ id) (is_of scope access) ys same))

  pub lists_more : lists_of (xs ++ ys) ≡ inserted (map listed ys) (lists_of xs)
  lists_more = λ i. record {
    global_reads = one_more Global Read (λ s. s.global_reads) (λ x s. refl) (λ x. refl) refl i;
    global_writes = one_more Global Write (λ s. s.global_writes) (λ x s. refl) (λ x. refl) refl i;
    local_reads = one_more Local Read (λ s. s.local_reads) (λ x s. refl) (λ x. refl) refl i;
    local_writes = one_more Local Write (λ s. s.local_writes) (λ x s. refl) (λ x. refl) refl i;
  }

-- the lists behind a begin of a new request
pub lists_begun : (h : List Entry) (b : Begin) → has_ended h b.id ≡ false → ((x : HeldLatch) → In x (latches_held h) → x.by ≡ b.id → ⊥) →
    lists_of (latches_held (h ++ entry_of b ∷ [])) ≡ inserted (own_from b.id b.lane 0 (to_hold b.mode b.request.latches)) (lists_of (latches_held h))
lists_begun h b new differ =
    ap lists_of (held_begun h b new)
    ∙ (lists_more b.id (latches_held h) (begun_latches b) differ (by_own b) ∙ ap (λ ys. inserted ys (lists_of (latches_held h))) (begun_listed b))
