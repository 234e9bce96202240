-- The commands of a generated script keep the rules: of the requests by their numbers those below one number are opened, and those
-- below another are closed.
use Rattle.std.proofs.Common.{◌≡◌, ℕ, zero, suc, ◌+◌, ◌-◌, ◌<◌, ◌≤◌, ◌^◌, ◌%◌, Bool, true, false, not, ◌&&◌, ◌||◌, cond, leb, ltb, eqb, List, [], ◌∷◌, ◌++◌}
use Rattle.std.proofs.Common.{None, decimal, take, refl, sym, ap, subst, ◌∙◌, append-nil, append_assoc, inl, inr, arith}
use Rattle.std.specs.List.{AllByRecursion, list_any}
use Rattle.std.proofs.lemmas.Bool.{eqb-true, eq-eqb, ne_eqb, lt-ltb, le-ltb, leb-true, leb-false, cases_lt}
use Rattle.std.proofs.lemmas.Bool.Decides.{same_from_decides, eqb_tells, nat_tests}
use Rattle.std.proofs.lemmas.Fmt.{decimal_injective}
use Rattle.std.proofs.lemmas.List.Folds.{list_any-append}
use Rattle.std.proofs.lemmas.Slice.Eq.{bytes_eq-Decides}
use Rattle.latch_model.specs.declared.latch.Latch.{Latch}
use Rattle.latch_model.specs.declared.latch.Mode.{Mode}
use Rattle.latch_model.specs.declared.latch.Mode.TheVariants.{Acquire, Optimistic, Look}
use Rattle.latch_model.specs.declared.latch.Policy.{Policy}
use Rattle.script.specs.declared.command.Command.{Command}
use Rattle.script.specs.declared.command.Command.TheVariants.{Begin, Wait, Check, Poison, Release, Metrics}
use Rattle.script.specs.Commands.{is_busy, is_live, is_used, leaves_live, opens, opens_live, opens_optimistic, releases, rule_cause}
use Rattle.script.specs.Commands.{same_name, some_live, waits_for}
use Rattle.script.specs.Generated.{closed_before, closing, closings_from, draw, drawn_latches, first_check, generated, last_closings, mode_of, name_of}
use Rattle.script.specs.Generated.{opening_of, openings_from, poisoning, policy_of, skips_wait}
use Rattle.script.proofs.Busy.{same_self}
use Rattle.script.proofs.Choices.{and_no, or_no, or_right}
use Rattle.script.proofs.Laws.Walk.{MayFollow}

-- ---- lists of commands

may_follow_both : (earlier xs ys : List Command) → MayFollow earlier xs → MayFollow (earlier ++ xs) ys → MayFollow earlier (xs ++ ys)
may_follow_both earlier [] ys f g = subst (λ (cs : List Command). MayFollow cs ys) (append-nil earlier) g
may_follow_both earlier (c ∷ xs) ys f g = (
  f.0,
  may_follow_both (earlier ++ c ∷ []) xs ys f.1 (subst (λ (cs : List Command). MayFollow cs ys) (sym (append_assoc earlier (c ∷ []) xs)) g),
)

pub each_of_both : (P : Command → Type 0) (xs ys : List Command) → AllByRecursion P xs → AllByRecursion P ys → AllByRecursion P (xs ++ ys)
each_of_both P [] ys a b = b
each_of_both P (c ∷ xs) ys a b = (a.0, each_of_both P xs ys a.1 b)

none_of : (P : Command → Type 0) (p : Command → Bool) → ((c : Command) → P c → p c ≡ false) → (cs : List Command) → AllByRecursion P cs
    → list_any p cs ≡ false
none_of P p f [] a = refl
none_of P p f (c ∷ cs) a = rw (f c a.0) (none_of P p f cs a.1)

-- ---- names

same_number : (i j : ℕ) → i < 2 ^ 64 → j < 2 ^ 64 → same_name (name_of i) (name_of j) ≡ eqb i j
same_number i j low high =
    same_from_decides {P = name_of i ≡ name_of j} (same_name (name_of i) (name_of j)) (eqb i j) (bytes_eq-Decides (name_of i) (name_of j)) (
      λ h. ap name_of (eqb-true i j h),
      λ e. eq-eqb i j (decimal_injective i j low high (let f : decimal i ≡ decimal j = cc in f)),
    )

-- an opening is of a request by its number
abbrev IsNumbered : Command → Type 0
IsNumbered (Begin session name mode policy turns latches) = (j : ℕ) × (j < 2 ^ 64) × (session ≡ j % 64 + 1) × (name ≡ name_of j)
IsNumbered (Wait name) = Unit {0}
IsNumbered (Check name latches) = Unit {0}
IsNumbered (Poison name) = Unit {0}
IsNumbered (Release name) = Unit {0}
IsNumbered Metrics = Unit {0}

-- The requests below `hi` are opened by these commands, and those below `lo` are closed.
record Stands (cs : List Command) (lo hi : ℕ) : Type 0 where
  used : (j : ℕ) → j < 2 ^ 64 → is_used cs (name_of j) ≡ ltb j hi
  released : (j : ℕ) → j < 2 ^ 64 → list_any (releases (name_of j)) cs ≡ ltb j lo
  waited : (j : ℕ) → j < 2 ^ 64 → lo ≤ j → list_any (waits_for (name_of j)) cs ≡ false
  each : AllByRecursion IsNumbered cs

stands_empty : Stands [] 0 0
stands_empty = record {
  used = λ j small. grind (arith, nat_tests);
  released = λ j small. grind (arith, nat_tests);
  waited = λ j small h. refl;
  each = tt;
}

-- no request is both opened and not opened
neither : (b : Bool) → (b && not b) ≡ false
neither true = refl
neither false = refl

live_is : (cs : List Command) (lo hi j : ℕ) → Stands cs lo hi → j < 2 ^ 64 → is_live cs (name_of j) ≡ (ltb j hi && not (ltb j lo))
live_is cs lo hi j s small = rw (s.used j small, s.released j small) refl

live_between : (cs : List Command) (lo hi j : ℕ) → Stands cs lo hi → j < 2 ^ 64 → lo ≤ j → j < hi → is_live cs (name_of j) ≡ true
live_between cs lo hi j s small from to = live_is cs lo hi j s small ∙ rw (lt-ltb j hi to, le-ltb j lo from) refl

-- Further commands keep the rules, and these numbers of requests are closed and opened then.
record Leads (cs ds : List Command) (lo hi : ℕ) : Type 0 where
  rules : MayFollow cs ds
  stands : Stands (cs ++ ds) lo hi

lead_on : (cs xs ys : List Command) (lo hi from to : ℕ) → Leads cs xs lo hi → Leads (cs ++ xs) ys from to → Leads cs (xs ++ ys) from to
lead_on cs xs ys lo hi from to a b = record {
  rules = may_follow_both cs xs ys a.rules b.rules;
  stands = subst (λ (ds : List Command). Stands ds from to) (append_assoc cs xs ys) b.stands;
}

lead_nowhere : (cs : List Command) (lo hi : ℕ) → Stands cs lo hi → Leads cs [] lo hi
lead_nowhere cs lo hi s = record { rules = tt; stands = subst (λ (ds : List Command). Stands ds lo hi) (sym (append-nil cs)) s }

-- ---- one command

-- what a command that opens, closes and awaits nothing leaves as it was
record IsIdle (c : Command) : Type 0 where
  opens_none : (q : List ℕ) → opens q c ≡ false
  releases_none : (q : List ℕ) → releases q c ≡ false
  waits_none : (q : List ℕ) → waits_for q c ≡ false
  numbered : IsNumbered c

same_behind : (p : Command → Bool) (cs : List Command) (c : Command) → p c ≡ false → list_any p (cs ++ c ∷ []) ≡ list_any p cs
same_behind p cs c e = list_any-append p cs (c ∷ []) ∙ rw e (sym (or_no (list_any p cs)))

lead_idle : (cs : List Command) (c : Command) (lo hi : ℕ) → Stands cs lo hi → IsIdle c → rule_cause cs c ≡ None → Leads cs (c ∷ []) lo hi
lead_idle cs c lo hi s idle rule = record {
  rules = (rule, tt);
  stands = record {
    used = λ j small. same_behind (opens (name_of j)) cs c (idle.opens_none (name_of j)) ∙ s.used j small;
    released = λ j small. same_behind (releases (name_of j)) cs c (idle.releases_none (name_of j)) ∙ s.released j small;
    waited = λ j small from. same_behind (waits_for (name_of j)) cs c (idle.waits_none (name_of j)) ∙ s.waited j small from;
    each = each_of_both IsNumbered cs (c ∷ []) s.each (idle.numbered, tt);
  };
}

-- one more number below a bound
one_more : (i j : ℕ) → (ltb j i || (eqb i j || false)) ≡ ltb j (i + 1)
one_more i j = grind (arith, nat_tests)

-- ---- a request is opened

apart : (i lo j : ℕ) → i ≤ lo + 63 → j % 64 ≡ i % 64 → (ltb j i && not (ltb j lo)) ≡ false
apart i lo j near e = elim (cases_lt j lo) [
  | inl closed ↦ rw (lt-ltb j lo closed) (and_no (ltb j i))
  | inr behind ↦ let from : i ≤ j = omega arith in rw (le-ltb j i from) refl
]

-- no request below i that is open is of the session of i
idle_session : (i lo j s : ℕ) → i ≤ lo + 63 → s ≡ j % 64 + 1 → (eqb s (i % 64 + 1) && (ltb j i && not (ltb j lo))) ≡ false
idle_session i lo j s near e = elim (eqb_tells s (i % 64 + 1)) [
  | inl same ↦ let one : j % 64 ≡ i % 64 = let other = same.1 in omega arith in
      ap (λ (b : Bool). eqb s (i % 64 + 1) && b) (apart i lo j near one) ∙ and_no (eqb s (i % 64 + 1))
  | inr other ↦ rw other.0 refl
]

idle_at : (cs : List Command) (lo i : ℕ) → Stands cs lo i → i ≤ lo + 63 → (c : Command) → IsNumbered c → opens_live cs (i % 64 + 1) c ≡ false
idle_at cs lo i s near (Begin session name mode policy turns latches) a =
    ap (λ (n : List ℕ). eqb session (i % 64 + 1) && is_live cs n) a.3
    ∙ ap (λ (b : Bool). eqb session (i % 64 + 1) && b) (live_is cs lo i a.0 s a.1)
    ∙ idle_session i lo a.0 session near a.2
idle_at cs lo i s near (Wait name) a = refl
idle_at cs lo i s near (Check name latches) a = refl
idle_at cs lo i s near (Poison name) a = refl
idle_at cs lo i s near (Release name) a = refl
idle_at cs lo i s near Metrics a = refl

abbrev begun_by : ℕ → Mode → Policy → List Latch → Command
begun_by i mode policy ls = Begin (i % 64 + 1) (name_of i) mode policy None ls

lead_begin : (cs : List Command) (lo i : ℕ) (mode : Mode) (policy : Policy) (ls : List Latch) → Stands cs lo i → i ≤ lo + 63 → lo ≤ i → i < 2 ^ 63
    → Leads cs (begun_by i mode policy ls ∷ []) lo (i + 1)
lead_begin cs lo i mode policy ls s near from low =
    let small : i < 2 ^ 64 = omega arith in
    let idle : is_busy cs (i % 64 + 1) ≡ false = none_of IsNumbered (opens_live cs (i % 64 + 1)) (idle_at cs lo i s near) cs s.each in
    let fresh : is_used cs (name_of i) ≡ false = s.used i small ∙ le-ltb i i (omega arith) in
    record {
      rules = (rw (idle, fresh) refl, tt);
      stands = record {
        used = λ j below. list_any-append (opens (name_of j)) cs (begun_by i mode policy ls ∷ [])
            ∙ rw (s.used j below, same_number i j small below) (one_more i j);
        released = λ j below. same_behind (releases (name_of j)) cs (begun_by i mode policy ls) refl ∙ s.released j below;
        waited = λ j below behind. same_behind (waits_for (name_of j)) cs (begun_by i mode policy ls) refl ∙ s.waited j below behind;
        each = each_of_both IsNumbered cs (begun_by i mode policy ls ∷ []) s.each ((i, small, refl, refl), tt);
      };
    }

check_is_idle : (name : List ℕ) (ls : List Latch) → IsIdle (Check name ls)
check_is_idle name ls = record { opens_none = λ q. refl; releases_none = λ q. refl; waits_none = λ q. refl; numbered = tt }

poison_is_idle : (name : List ℕ) → IsIdle (Poison name)
poison_is_idle name = record { opens_none = λ q. refl; releases_none = λ q. refl; waits_none = λ q. refl; numbered = tt }

-- a request that has just been opened by `optimistic` can be checked
optimistic_behind : (cs : List Command) (i : ℕ) (policy : Policy) (ls : List Latch)
    → list_any (opens_optimistic (name_of i)) (cs ++ begun_by i Optimistic policy ls ∷ []) ≡ true
optimistic_behind cs i policy ls =
    list_any-append (opens_optimistic (name_of i)) cs (begun_by i Optimistic policy ls ∷ [])
    ∙ rw (same_self (name_of i)) (or_right (list_any (opens_optimistic (name_of i)) cs) true refl)

lead_check : (cs : List Command) (lo i : ℕ) (mode : Mode) (policy : Policy) (ls : List Latch) → Stands (cs ++ begun_by i mode policy ls ∷ []) lo (i + 1)
    → lo ≤ i → i < 2 ^ 63
    → Leads (cs ++ begun_by i mode policy ls ∷ []) (first_check mode i ls) lo (i + 1)
lead_check cs lo i Acquire policy ls s from low = lead_nowhere (cs ++ begun_by i Acquire policy ls ∷ []) lo (i + 1) s
lead_check cs lo i Look policy ls s from low = lead_nowhere (cs ++ begun_by i Look policy ls ∷ []) lo (i + 1) s
lead_check cs lo i Optimistic policy ls s from low =
    let small : i < 2 ^ 64 = omega arith in
    let all = cs ++ begun_by i Optimistic policy ls ∷ [] in
    let live = live_between all lo (i + 1) i s small from (omega arith) in
    let one = optimistic_behind cs i policy ls in
    let waited = s.waited i small from in
    lead_idle all (Check (name_of i) (take 1 ls)) lo (i + 1) s (check_is_idle (name_of i) (take 1 ls)) (rw (live, one, waited) refl)

lead_poison : (cs : List Command) (lo i : ℕ) (b : Bool) → Stands cs lo (i + 1) → lo ≤ i → i < 2 ^ 63
    → Leads cs (cond b (Poison (name_of i) ∷ []) []) lo (i + 1)
lead_poison cs lo i false s from low = lead_nowhere cs lo (i + 1) s
lead_poison cs lo i true s from low =
    let small : i < 2 ^ 64 = omega arith in
    let live = live_between cs lo (i + 1) i s small from (omega arith) in
    lead_idle cs (Poison (name_of i)) lo (i + 1) s (poison_is_idle (name_of i)) (rw live refl)

-- ---- a request is closed

later : (i j : ℕ) → i + 1 ≤ j → eqb i j ≡ false
later i j h = ne_eqb i j (λ e. omega arith)

-- what closing a request leaves, with or without a wait
record Closes (ds : List Command) (i : ℕ) : Type 0 where
  opens_none : (q : List ℕ) → list_any (opens q) ds ≡ false
  releases_one : (q : List ℕ) → list_any (releases q) ds ≡ (same_name (name_of i) q || false)
  waits_one : (q : List ℕ) → same_name (name_of i) q ≡ false → list_any (waits_for q) ds ≡ false
  numbered : AllByRecursion IsNumbered ds

stands_closed : (cs ds : List Command) (lo hi : ℕ) → Stands cs lo hi → Closes ds lo → lo < 2 ^ 63 → Stands (cs ++ ds) (lo + 1) hi
stands_closed cs ds lo hi s k low =
    let small : lo < 2 ^ 64 = omega arith in
    record {
      used = λ j below. list_any-append (opens (name_of j)) cs ds ∙ rw (k.opens_none (name_of j)) (sym (or_no (is_used cs (name_of j)))) ∙ s.used j below;
      released = λ j below. list_any-append (releases (name_of j)) cs ds
          ∙ rw (k.releases_one (name_of j), s.released j below, same_number lo j small below) (one_more lo j);
      waited = λ j below behind. list_any-append (waits_for (name_of j)) cs ds
          ∙ rw (k.waits_one (name_of j) (same_number lo j small below ∙ later lo j behind), s.waited j below (omega arith)) refl;
      each = each_of_both IsNumbered cs ds s.each k.numbered;
    }

release_closes : (i : ℕ) → Closes (Release (name_of i) ∷ []) i
release_closes i = record { opens_none = λ q. refl; releases_one = λ q. refl; waits_one = λ q h. refl; numbered = (tt, tt) }

wait_closes : (i : ℕ) → Closes (Wait (name_of i) ∷ Release (name_of i) ∷ []) i
wait_closes i = record { opens_none = λ q. refl; releases_one = λ q. refl; waits_one = λ q h. rw h refl; numbered = (tt, (tt, tt)) }

live_behind_wait : (cs : List Command) (m n : List ℕ) → is_live (cs ++ Wait m ∷ []) n ≡ is_live cs n
live_behind_wait cs m n = rw (same_behind (opens n) cs (Wait m) refl, same_behind (releases n) cs (Wait m) refl) refl

lead_closing : (cs : List Command) (lo next hi : ℕ) (b : Bool) → Stands cs lo hi → lo < hi → lo < 2 ^ 63 → next ≡ lo + 1
    → Leads cs (cond b (Release (name_of lo) ∷ []) (Wait (name_of lo) ∷ Release (name_of lo) ∷ [])) next hi
lead_closing cs lo next hi true s within low e =
    let live = live_between cs lo hi lo s (omega arith) (omega arith) within in
    let ds = Release (name_of lo) ∷ [] in
    record { rules = (rw live refl, tt); stands = subst (λ (n : ℕ). Stands (cs ++ ds) n hi) (sym e) (stands_closed cs ds lo hi s (release_closes lo) low) }
lead_closing cs lo next hi false s within low e =
    let live = live_between cs lo hi lo s (omega arith) (omega arith) within in
    let still = live_behind_wait cs (name_of lo) (name_of lo) ∙ live in
    let ds = Wait (name_of lo) ∷ Release (name_of lo) ∷ [] in
    record {
      rules = (rw live refl, (rw still refl, tt));
      stands = subst (λ (n : ℕ). Stands (cs ++ ds) n hi) (sym e) (stands_closed cs ds lo hi s (wait_closes lo) low);
    }

-- ---- the requests in their order

-- before request i is opened, the request 64 before it is closed
lead_before : (cs : List Command) (i : ℕ) (b : Bool) → leb 64 i ≡ b → Stands cs (i - 64) i → i < 2 ^ 63
    → Leads cs (cond b (closing (i - 64)) []) (i + 1 - 64) i
lead_before cs i true e s low =
    let many = leb-true 64 i e in
    lead_closing cs (i - 64) (i + 1 - 64) i (skips_wait (mode_of (i - 64)) (i - 64)) s (omega arith) (omega arith) (omega arith)
lead_before cs i false e s low =
    let few = leb-false 64 i e in
    let same : i - 64 ≡ i + 1 - 64 = omega arith in
    lead_nowhere cs (i + 1 - 64) i (subst (λ (n : ℕ). Stands cs n i) same s)

lead_request : (cs : List Command) (i : ℕ) (ls : List Latch) → Stands cs (i - 64) i → i < 2 ^ 63 → Leads cs (opening_of i ls) (i + 1 - 64) (i + 1)
lead_request cs i ls s low =
    let lo = i + 1 - 64 in
    let before = closed_before i in
    let opening = begun_by i (mode_of i) (policy_of i) ls ∷ [] in
    let checks = first_check (mode_of i) i ls in
    let poisons = poisoning i in
    let a = lead_before cs i (leb 64 i) refl s low in
    let b = lead_begin (cs ++ before) lo i (mode_of i) (policy_of i) ls a.stands (omega arith) (omega arith) low in
    let c = lead_check (cs ++ before) lo i (mode_of i) (policy_of i) ls b.stands (omega arith) low in
    let d = lead_poison (((cs ++ before) ++ opening) ++ checks) lo i (eqb (i % 97) 50) c.stands (omega arith) low in
    let ab = lead_on cs before opening lo i lo (i + 1) a b in
    let here : (cs ++ before) ++ opening ≡ cs ++ (before ++ opening) = append_assoc cs before opening in
    let c' = subst (λ (x : List Command). Leads x checks lo (i + 1)) here c in
    let abc = lead_on cs (before ++ opening) checks lo (i + 1) lo (i + 1) ab c' in
    let there : ((cs ++ before) ++ opening) ++ checks ≡ cs ++ ((before ++ opening) ++ checks) = simp append_assoc in
    let d' = subst (λ (x : List Command). Leads x poisons lo (i + 1)) there d in
    lead_on cs ((before ++ opening) ++ checks) poisons lo (i + 1) lo (i + 1) abc d'

lead_openings : (n i x to : ℕ) (cs : List Command) → to ≡ i + n → to < 2 ^ 63 → Stands cs (i - 64) i → Leads cs (openings_from n i x) (to - 64) to
lead_openings zero i x to cs e low s =
    let same : i ≡ to = omega arith in lead_nowhere cs (to - 64) to (subst (λ (n : ℕ). Stands cs (n - 64) n) same s)
lead_openings (suc n) i x to cs e low s =
    let c = draw x in
    let ls = drawn_latches (1 + c % 4) c in
    let first = lead_request cs i ls.0 s (omega arith) in
    let others = lead_openings n (i + 1) ls.1 to (cs ++ opening_of i ls.0) (omega arith) low first.stands in
    lead_on cs (opening_of i ls.0) (openings_from n (i + 1) ls.1) (i + 1 - 64) (i + 1) (to - 64) to first others

lead_closings : (n lo to hi : ℕ) (cs : List Command) → to ≡ lo + n → to ≤ hi → hi < 2 ^ 63 → Stands cs lo hi → Leads cs (closings_from n lo) to hi
lead_closings zero lo to hi cs e within low s =
    let same : lo ≡ to = omega arith in lead_nowhere cs to hi (subst (λ (n : ℕ). Stands cs n hi) same s)
lead_closings (suc n) lo to hi cs e within low s =
    let first = lead_closing cs lo (lo + 1) hi (skips_wait (mode_of lo) lo) s (omega arith) (omega arith) refl in
    let others = lead_closings n (lo + 1) to hi (cs ++ closing lo) (omega arith) within low first.stands in
    lead_on cs (closing lo) (closings_from n (lo + 1)) (lo + 1) hi to hi first others

lead_last : (n : ℕ) (cs : List Command) (b : Bool) → leb n 64 ≡ b → n < 2 ^ 63 → Stands cs (n - 64) n
    → Leads cs (cond b (closings_from n 0) (closings_from 64 (n - 64))) n n
lead_last n cs true e low s =
    let few = leb-true n 64 e in
    let none : n - 64 ≡ 0 = omega arith in
    lead_closings n 0 n n cs (omega arith) (omega arith) low (subst (λ (k : ℕ). Stands cs k n) none s)
lead_last n cs false e low s =
    let many = leb-false n 64 e in
    lead_closings 64 (n - 64) n n cs (omega arith) (omega arith) low s

leads_all : (n : ℕ) → n < 2 ^ 63 → Leads [] (generated n) n n
leads_all n low =
    let openings = openings_from n 0 n in
    let first = lead_openings n 0 n n [] (omega arith) low stands_empty in
    lead_on [] openings (last_closings n) (n - 64) n n n first
    (lead_last n openings (leb n 64) refl low first.stands)

-- ---- the laws

closed_at : (cs : List Command) (n : ℕ) → Stands cs n n → (c : Command) → IsNumbered c → leaves_live cs c ≡ false
closed_at cs n s (Begin session name mode policy turns latches) a =
    ap (is_live cs) a.3 ∙ live_is cs n n a.0 s a.1 ∙ neither (ltb a.0 n)
closed_at cs n s (Wait name) a = refl
closed_at cs n s (Check name latches) a = refl
closed_at cs n s (Poison name) a = refl
closed_at cs n s (Release name) a = refl
closed_at cs n s Metrics a = refl

-- Each command of a generated script may follow those before it, and in the end no name is live.
pub generated_rules : (n : ℕ) → n < 2 ^ 63 → MayFollow [] (generated n)
generated_rules n low = (leads_all n low).rules

pub generated_released : (n : ℕ) → n < 2 ^ 63 → some_live (generated n) ≡ false
generated_released n low =
    let s = (leads_all n low).stands in
    none_of IsNumbered (leaves_live (generated n)) (closed_at (generated n) n s) (generated n) s.each
