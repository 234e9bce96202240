-- What has been shown is a front of the history, and a pass's own entries all stand in it.
use Rattle.std.proofs.Common.{◌≡◌, ℕ, suc, ◌+◌, ◌<◌, ◌≤◌, Bool, true, false, cond, ◌==◌, List, [], ◌∷◌, ◌++◌, length, Option, Some, None, refl, sym, ap}
use Rattle.std.proofs.Common.{◌∙◌, subst, inl, inr, arith, append_assoc, append-nil, add-zero, length-append}
use Rattle.latch_model.specs.declared.history.Entry.{Entry}
use Rattle.latch_model.proofs.Lists.{Contains-from_In, In, In-append_right}
use Rattle.signal_board.specs.Rule.{FrontOk, IsPrefix, Marks, PassOk, Reaches, full, own, own_from, who_of, with_end}
use Rattle.signal_board.specs.Views.{History, PassView}

-- all entries are the log and what is still to be raised
ending_of : (log : List Entry) (e : Option Entry) → (more : List Entry) × (log ++ more ≡ with_end log e)
ending_of log None = ([], append-nil log)
ending_of log (Some e) = (e ∷ [], refl)

full_behind : (h : History) (shown : List Entry) → IsPrefix shown h.log → (more : List Entry) × (shown ++ more ≡ full h)
full_behind h shown p =
    let w = ending_of h.log h.ending in
    (p.0 ++ w.0, sym (append_assoc shown p.0 w.0) ∙ (ap (λ l. l ++ w.0) p.1 ∙ w.1))

pub shown_within : (h : History) (shown : List Entry) → IsPrefix shown h.log → length shown ≤ length (full h)
shown_within h shown p =
    let w = full_behind h shown p in
    let long : length shown + length w.0 ≡ length (full h) = sym (length-append shown w.0) ∙ ap length w.1 in
    omega arith

pub front_within : (log : List Entry) (id : ℕ) (o : Option ℕ) (front : ℕ) → o ≡ Some front → FrontOk log id o → front ≤ length log
front_within log id o front is ok = let w : FrontOk log id (Some front) = subst (FrontOk log id) is ok in w.1

-- the entries of one session in two parts of a history
own-append : (who n : ℕ) (xs ys : List Entry) → own_from who n (xs ++ ys) ≡ own_from who n xs ++ own_from who (n + length xs) ys
own-append who n [] ys = ap (λ (m : ℕ). own_from who m ys) (sym (add-zero n))
own-append who n (x ∷ xs) ys =
    let on : (n + 1) + length xs ≡ n + suc (length xs) = omega arith in
    let ih : own_from who (n + 1) (xs ++ ys) ≡ own_from who (n + 1) xs ++ own_from who (n + suc (length xs)) ys = own-append who (n + 1) xs ys
    ∙ ap (λ (m : ℕ). own_from who (n + 1) xs ++ own_from who m ys) on in
    elim (who_of x == who) as (λ b. cond b ((n, x) ∷ own_from who (n + 1) (xs ++ ys)) (own_from who (n + 1) (xs ++ ys)) ≡ cond b
    ((n, x) ∷ own_from who (n + 1) xs) (own_from who (n + 1) xs) ++ own_from who (n + suc (length xs)) ys) [
      | true ↦ ap (λ l. (n, x) ∷ l) ih
      | false ↦ ih
    ]

-- they stand no earlier than the list
own_behind : (who n : ℕ) (xs : List Entry) (k : ℕ) (e : Entry) → In (k, e) (own_from who n xs) → n ≤ k
own_behind who n [] k e h = absurd h
own_behind who n (x ∷ xs) k e h = by (who_of x == who) h (own_behind who (n + 1) xs k e)
  where
    by : (b : Bool) → In (k, e) (cond b ((n, x) ∷ own_from who (n + 1) xs) (own_from who (n + 1) xs)) →
        (In (k, e) (own_from who (n + 1) xs) → n + 1 ≤ k) → n ≤ k
    by true (inl same) rest = let is : n ≡ k = ap (λ (y : ℕ × Entry). y.0) same in omega arith
    by true (inr there) rest = let le = rest there in omega arith
    by false there rest = let le = rest there in omega arith

none_in : {A : Type 0} (xs : List A) → ((x : A) → In x xs → ⊥) → xs ≡ []
none_in [] none = refl
none_in (x ∷ xs) none = absurd (none x (inl refl))

-- A pass's own entries are those of its number in what it has been shown.
pub own_shown : (h : History) (m : Marks) (spot : ℕ) (p : PassView) → PassOk h m spot p → Reaches p → p.mine ≡ own p.who p.shown
own_shown h m spot p ok reaches =
    let w = full_behind h p.shown ok.shown in
    let later = own_from p.who (0 + length p.shown) w.0 in
    let parts : p.mine ≡ own p.who p.shown ++ later = ok.mine ∙ (ap (own p.who) (sym w.1) ∙ own-append p.who 0 p.shown w.0) in
    let nothing : later ≡ [] = none_in later (λ (x : ℕ × Entry) i.
    let low : 0 + length p.shown ≤ x.0 = own_behind p.who (0 + length p.shown) w.0 x.0 x.1 i in
    let there : In x p.mine = subst (In x) (sym parts) (In-append_right (own p.who p.shown) later x i) in
    let lt : x.0 < length p.shown = reaches x.0 x.1 (Contains-from_In p.mine x there) in
    omega arith) in
    parts ∙ (ap (λ l. own p.who p.shown ++ l) nothing ∙ append-nil _)
