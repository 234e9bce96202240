-- How many requests are open, where each session has at most one and some session has none.
use Rattle.std.proofs.Common.{◌≡◌, ◌≢◌, ℕ, eqb, ◌+◌, ◌<◌, ◌≤◌, true, false, not, List, [], ◌∷◌, length, map, refl, sym, ◌∙◌, ap, subst}
use Rattle.std.proofs.Common.{inl, inr, arith, ne_eqb}
use Rattle.std.proofs.lemmas.Bool.{eqb-true, not-true}
use Rattle.std.proofs.lemmas.List.{length-map}
use Rattle.std.proofs.lemmas.Map.Steps.{length-le_from_distinct_below}
use Rattle.std.specs.List.{AllByRecursion, IsDistinct, list_any}
use Rattle.latch_model.specs.Histories.{Begin, begins, entry_of, has_ended, open_begins}
use Rattle.latch_model.specs.Legal.{IsLegal, IsLegalBelow}
use Rattle.latch_model.specs.declared.history.Entry.{Entry}
use Rattle.latch_model.specs.declared.history.Sizes.{Sizes}
use Rattle.latch_model.proofs.Appending.{IsLegal-below}
use Rattle.latch_model.proofs.Counting.{Rises, Rises-begins, Rises-filter, begin_is}
use Rattle.latch_model.proofs.Lists.{In}
use Rattle.latch_model.proofs.Members.{filter_of-In, list_any_of, map_of-In}
use Rattle.latch_model.proofs.Ordered.{stands_at}
use Rattle.std.proofs.Math.Seq.{take-length}
use Rattle.signal_board.specs.Rule.{ByGiven, entries, open_count, own}
use Rattle.signal_board.proofs.Sessions.{none_open, open_own}

-- of a list with at most one member, two members are one
only_one : (xs : List Begin) (a b : Begin) → length xs ≤ 1 → In a xs → In b xs → a ≡ b
only_one [] a b one i j = absurd i
only_one (x ∷ []) a b one (inl e) (inl f) = sym e ∙ f
only_one (x ∷ []) a b one (inl e) (inr j) = absurd j
only_one (x ∷ []) a b one (inr i) j = absurd i
only_one (x ∷ y ∷ ys) a b one i j = absurd (omega arith)

-- numbers that none of a list has
apart : (n : ℕ) (ns : List ℕ) → ((m : ℕ) → In m ns → n ≢ m) → (rest : IsDistinct eqb ns) → IsDistinct eqb (n ∷ ns)
unfolding IsDistinct
apart n ns none rest = (each ns none, rest)
  where
    each : (ms : List ℕ) → ((m : ℕ) → In m ms → n ≢ m) → AllByRecursion (λ m. eqb n m ≡ false) ms
    each [] none = tt
    each (m ∷ ms) none = (ne_eqb n m (none m (inl refl)), each ms (λ k i. none k (inr i)))

-- each of a list's numbers is below n
all_below : (n : ℕ) (ns : List ℕ) → ((m : ℕ) → In m ns → m < n) → (q : ℕ) → list_any (eqb q) ns ≡ true → q < n
all_below n ns below q t =
    let w = list_any_of (eqb q) ns t in
    let same : q ≡ w.0 = eqb-true q w.0 w.2 in
    let lt = below w.0 w.1 in
    omega arith

module _ (log : List Entry) (sizes : Sizes) (given : ℕ) (legal : IsLegal log sizes) (by : ByGiven log given)
    (one : (who : ℕ) → 0 < who → who ≤ given → open_count (own who log) ≤ 1) where
  below : IsLegalBelow log sizes (length log)
  below = IsLegal-below log sizes (length log) legal

  -- where an open request stands, and that its session has it open
  opened : (b : Begin) → In b (open_begins log) → ((0 < b.who) × (b.who ≤ given)) × In b (open_begins (entries (own b.who log)))
  opened b there =
      let parts = filter_of-In (λ (x : Begin). not (has_ended log x.id)) (begins log) b there in
      let p = stands_at log sizes (length log) below (length log) b (subst (λ (l : List Entry). In b (begins l)) (sym (take-length log)) parts.0) in (
        by p.0 (entry_of b) p.2,
        open_own log b.who b (begin_is log sizes (length log) below p.0 b p.1 p.2).1 (not-true (has_ended log b.id) parts.1) refl,
      )

  -- two open requests of a session are one
  same_session : (a b : Begin) → In a (open_begins log) → In b (open_begins log) → a.who ≡ b.who → a ≡ b
  same_session a b a_in b_in same =
      let a_own = opened a a_in in
      let b_own = opened b b_in in
      only_one (open_begins (entries (own a.who log))) a b (one a.who a_own.0.0 a_own.0.1) a_own.1
      (subst (λ (who : ℕ). In b (open_begins (entries (own who log)))) (sym same) b_own.1)

  sessions_differ : (bs : List Begin) → Rises bs → ((b : Begin) → In b bs → In b (open_begins log)) → IsDistinct eqb (map (λ b. b.who) bs)
  unfolding IsDistinct
  sessions_differ [] rises within = tt
  sessions_differ (x ∷ xs) rises within =
      apart x.who (map (λ b. b.who) xs) (λ m there e.
      let w = map_of-In (λ (b : Begin). b.who) xs m there in
      let same : x ≡ w.0 = same_session x w.0 (within x (inl refl)) (within w.0 (inr w.1)) (e ∙ sym w.2) in
      let ids : x.id ≡ w.0.id = ap (λ (b : Begin). b.id) same in
      let less = rises.0 w.0 w.1 in
      omega arith) (sessions_differ xs rises.1 (λ b i. within b (inr i)))

  -- a session without an open request leaves room for one among as many as there are sessions
  pub lane_left : (who : ℕ) → 0 < who → who ≤ given → open_count (own who log) ≡ 0 → length (open_begins log) < given
  lane_left who low high none =
      let rises : Rises (open_begins log) = Rises-filter (λ b. not (has_ended log b.id)) (begins log)
      (subst (λ (l : List Entry). Rises (begins l)) (take-length log) (Rises-begins log sizes (length log) below (length log) (omega arith) (omega arith))) in
      let fresh : (m : ℕ) → In m (map (λ b. b.who) (open_begins log)) → (0 < m) × (m ≤ given) × (who ≢ m) = λ m there.
      let w = map_of-In (λ (b : Begin). b.who) (open_begins log) m there in
      let o = opened w.0 w.1 in
      let is : w.0.who ≡ m = w.2 in (
        omega arith,
        omega arith,
        λ e. none_open (own who log) w.0 none
            (subst (λ (k : ℕ). In w.0 (open_begins (entries (own k log)))) (is ∙ sym e) o.1),
      ) in
      let others = apart who (map (λ b. b.who) (open_begins log)) (λ m there. (fresh m there).2)
      (sessions_differ (open_begins log) rises (λ b i. i)) in
      let all = apart 0 (who ∷ map (λ b. b.who) (open_begins log)) (λ m there e.
      elim there [ inl is ↦ absurd (omega arith) | inr more ↦ let f = fresh m more in absurd (omega arith) ]) others in
      let few = length-le_from_distinct_below (0 ∷ who ∷ map (λ b. b.who) (open_begins log)) (given + 1) all
      (all_below (given + 1) (0 ∷ who ∷ map (λ b. b.who) (open_begins log)) (λ m there. elim there [
        | inl is ↦ omega arith
        | inr more ↦ elim more [ inl is ↦ omega arith | inr rest ↦ let f = fresh m rest in omega arith ]
      ])) in
      let same = length-map (open_begins log) (λ (b : Begin). b.who) in
      omega arith
