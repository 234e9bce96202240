-- A latch is spelled in one way.
use Rattle.std.proofs.Common.{◌≡◌, ℕ, ◌≤◌, Bool, true, false, cond, not, ◌&&◌, suc, eqb, ltb, List, [], ◌∷◌, ◌++◌, length, drop, Some, None, Ok, Err}
use Rattle.std.proofs.Common.{codes, refl, sym, ap, subst, ◌∙◌, ◌≢◌, inl, inr, append_assoc, arith}
use Rattle.std.specs.List.{before_first, after_first}
use Rattle.std.proofs.lemmas.Bool.{ne_eqb, or_parts, or_from, ltb-false, le-ltb, not-false}
use Rattle.std.proofs.lemmas.Bool.Decides.{Decides-eqb}
use Rattle.std.proofs.lemmas.List.{append-nil}
use Rattle.std.proofs.lemmas.Slice.Eq.{starts_is}
use Rattle.hlc_stamp.specs.Stamps.{is_empty_stamp}
use Rattle.hlc_stamp.specs.declared.Stamp.{Stamp}
use Rattle.span_key.specs.Spans.{Pair, IsSpan, KeyLess, key_lt}
use Rattle.latch_model.specs.declared.latch.Access.{Access}
use Rattle.latch_model.specs.declared.latch.Access.TheVariants.{Read, Write}
use Rattle.latch_model.specs.declared.latch.Latch.{Latch}
use Rattle.script.specs.Fields.{◌>>?◌, ◌>>=◌, or_cause, is_byte, has_byte, begins_with, span_at, stamp_at, timed_at, access_at, bounded_at, is_long}
use Rattle.script.specs.Fields.{is_reversed, latch_at}
use Rattle.script.specs.Scripts.{IsScriptLatch}
use Rattle.script.specs.Texts.{span_text, stamp_text, access_text, latch_text}
use Rattle.script.specs.declared.limits.TheConstants.{KEY_LIMIT}
use Rattle.script.proofs.Laws.Steps.{some_bound, some_is, ok_bound, done, ok_is, cause_ok, chosen, ok_unless_err}
use Rattle.script.proofs.Laws.Bytes.{lacks}
use Rattle.script.proofs.Laws.Cuts.{cut_takes, before_again, after_again, has_again, parts_same}
use Rattle.script.proofs.Laws.Spans.{IsKeyed, span_takes, span_again, is_span_byte, Each-span_text}
use Rattle.script.proofs.Laws.Stamps.{made, stamp_body, IsInRange, stamp_takes, stamp_again, stamp_text_body, stamp_text_none, empty_is}

-- ---- a span and a stamp

abbrev TimedSpan : Type 0
TimedSpan = Pair × Stamp

abbrev timed_text : TimedSpan → List ℕ
timed_text p = span_text p.0 ++ stamp_text p.1

abbrev IsTimed : TimedSpan → Type 0
IsTimed p = IsKeyed p.0 × IsInRange p.1

timed_takes : (t : List ℕ) (p : TimedSpan) → timed_at t ≡ Some p → (t ≡ timed_text p) × IsTimed p
unfolding timed_at
timed_takes t p e =
    let front = before_first (is_byte 64) t in
    let back = after_first (is_byte 64) t in
    elim (chosen (has_byte 64 t) (span_at front >>? λ span. stamp_at back >>? λ stamp. Some (span, stamp)) (span_at t >>? λ span. Some (span, made 0 0))
    (Some p) e) [
      | inl two ↦
          let a = some_bound (span_at front) (λ span. stamp_at back >>? λ stamp. Some (span, stamp)) p two.1 in
          let b = some_bound (stamp_at back) (λ stamp. Some (a.0, stamp)) p a.2 in
          let span = span_takes front a.0 a.1 in
          let stamp = stamp_takes back b.0 b.1 in
          let m : TimedSpan = (a.0, b.0) in
          let whole : t ≡ span_text a.0 ++ (64 ∷ stamp_body b.0) = cut_takes 64 t two.0
          ∙ parts_same 64 front back (span_text a.0) (stamp_body b.0) span.0 stamp.0 in
          let text : span_text a.0 ++ (64 ∷ stamp_body b.0) ≡ timed_text m = ap (λ (x : List ℕ). span_text a.0 ++ x) (sym (stamp_text_body b.0 stamp.1)) in
          subst (λ (q : TimedSpan). (t ≡ timed_text q) × IsTimed q) (some_is m p b.2) (whole ∙ text, (span.1, stamp.2))
      | inr one ↦
          let a = some_bound (span_at t) (λ span. Some (span, made 0 0)) p one.1 in
          let span = span_takes t a.0 a.1 in
          let m : TimedSpan = (a.0, made 0 0) in
          subst (λ (q : TimedSpan). (t ≡ timed_text q) × IsTimed q) (some_is m p a.2) (
            span.0
                ∙ sym (append-nil (span_text a.0)),
            (span.1, record { wall = omega arith; logical = omega arith }),
          )
    ]

timed_by : (p : TimedSpan) (b : Bool) → IsTimed p → is_empty_stamp p.1 ≡ b → timed_at (timed_text p) ≡ Some p
unfolding timed_at
timed_by p true ok e =
    let clear : has_byte 64 (span_text p.0) ≡ false = lacks is_span_byte 64 (span_text p.0) refl (Each-span_text p.0 ok.0) in
    let text : timed_text p ≡ span_text p.0 = ap (λ (x : List ℕ). span_text p.0 ++ x) (stamp_text_none p.1 e) ∙ append-nil (span_text p.0) in
    let read : timed_at (span_text p.0) ≡ Some (p.0, made 0 0) = rw (clear, span_again p.0 ok.0) refl in
    let m : Stamp → TimedSpan = λ s. (p.0, s) in
    ap timed_at text ∙ read ∙ ap (λ (s : Stamp). Some (m s)) (empty_is p.1 e)
timed_by p false ok e =
    let clear : has_byte 64 (span_text p.0) ≡ false = lacks is_span_byte 64 (span_text p.0) refl (Each-span_text p.0 ok.0) in
    let text : timed_text p ≡ span_text p.0 ++ (64 ∷ stamp_body p.1) = ap (λ (x : List ℕ). span_text p.0 ++ x) (stamp_text_body p.1 e) in
    let read : timed_at (span_text p.0 ++ (64 ∷ stamp_body p.1)) ≡ Some p = rw (
      has_again 64 (span_text p.0) (stamp_body p.1),
      before_again 64 (span_text p.0)
          (stamp_body p.1) clear,
      after_again 64 (span_text p.0) (stamp_body p.1) clear,
      span_again p.0 ok.0,
      stamp_again p.1 e ok.1,
    ) refl in
    ap timed_at text ∙ read

timed_again : (p : TimedSpan) → IsTimed p → timed_at (timed_text p) ≡ Some p
timed_again p ok = timed_by p (is_empty_stamp p.1) ok refl

-- ---- an access

pub begins_takes : (front t : List ℕ) → begins_with front t ≡ true → t ≡ front ++ drop (length front) t
begins_takes front t h = (starts_is Decides-eqb t front (begins_with front t) refl).0 h

access_takes : (t : List ℕ) (a : Access) → access_at t ≡ Some a → t ≡ access_text a ++ drop 2 t
unfolding access_at
access_takes t a e =
    elim (chosen (begins_with (codes "r:") t) (Some Read) (cond (begins_with (codes "w:") t) (Some Write) None) (Some a) e) [
      | inl r ↦ subst (λ (x : Access). t ≡ access_text x ++ drop 2 t) (some_is Read a r.1) (begins_takes (codes "r:") t r.0)
      | inr other ↦
          elim (chosen (begins_with (codes "w:") t) (Some Write) None (Some a) other.1) [
            | inl w ↦ subst (λ (x : Access). t ≡ access_text x ++ drop 2 t) (some_is Write a w.1) (begins_takes (codes "w:") t w.0)
            | inr none ↦ absurd (let n = none.1 in cc)
          ]
    ]

access_again : (a : Access) (rest : List ℕ) → access_at (access_text a ++ rest) ≡ Some a
unfolding access_at
access_again Read rest = refl
access_again Write rest = refl

behind_access : (a : Access) (rest : List ℕ) → drop 2 (access_text a ++ rest) ≡ rest
behind_access Read rest = refl
behind_access Write rest = refl

-- ---- keys that a program can hold, and an end past its key

long_parts : (s : Pair) → is_long s ≡ false → (length s.0 ≤ KEY_LIMIT) × (length s.1 ≤ KEY_LIMIT)
long_parts s h = let p = or_parts (ltb KEY_LIMIT (length s.0))
    (ltb KEY_LIMIT (length s.1)) h in (ltb-false KEY_LIMIT (length s.0) p.0, ltb-false KEY_LIMIT (length s.1) p.1)

long_from : (s : Pair) → length s.0 ≤ KEY_LIMIT → length s.1 ≤ KEY_LIMIT → is_long s ≡ false
long_from s h g = or_from (ltb KEY_LIMIT (length s.0)) (ltb KEY_LIMIT (length s.1)) (le-ltb KEY_LIMIT (length s.0) h) (le-ltb KEY_LIMIT (length s.1) g)

reversed_is : (key : List ℕ) (b : ℕ) (bs : List ℕ) → is_reversed (key, b ∷ bs) ≡ not (key_lt key (b ∷ bs))
reversed_is key b bs = let some : eqb (suc (length bs)) 0 ≡ false = ne_eqb (suc (length bs)) 0 (λ z. omega arith) in ap
    (λ (t : Bool). not t && not (key_lt key (b ∷ bs))) some

ordered_takes : (s : Pair) → is_reversed s ≡ false → s.1 ≢ [] → KeyLess s.0 s.1
ordered_takes (key, []) h some = absurd (some refl)
ordered_takes (key, b ∷ bs) h some = not-false (key_lt key (b ∷ bs)) (sym (reversed_is key b bs) ∙ h)

ordered_again : (s : Pair) → (s.1 ≢ [] → KeyLess s.0 s.1) → is_reversed s ≡ false
ordered_again (key, []) h = refl
ordered_again (key, b ∷ bs) h = reversed_is key b bs ∙ ap not (h (λ z. cc))

span_from : (s : Pair) → IsKeyed s → is_long s ≡ false → is_reversed s ≡ false → IsSpan s
span_from s keyed long reversed =
    let fits = long_parts s long in
    record {
      key = record { bytes = keyed.key; fits = let short = fits.0 in omega arith };
      end = record { bytes = keyed.end; fits = let short = fits.1 in omega arith };
      ordered = ordered_takes s reversed;
    }

bounded_takes : (s p : Pair) → IsKeyed s → bounded_at s ≡ Ok p → (s ≡ p) × IsSpan s × (length s.0 ≤ KEY_LIMIT) × (length s.1 ≤ KEY_LIMIT)
unfolding bounded_at
bounded_takes s p keyed e =
    let long = ok_unless_err (is_long s) 9 (cond (is_reversed s) (Err 10) (Ok s)) p e in
    let reversed = ok_unless_err (is_reversed s) 10 (Ok s) p long.1 in
    (ok_is {C = ℕ} s p reversed.1, span_from s keyed long.0 reversed.0, (long_parts s long.0).0, (long_parts s long.0).1)

bounded_again : (s : Pair) → IsSpan s → length s.0 ≤ KEY_LIMIT → length s.1 ≤ KEY_LIMIT → bounded_at s ≡ Ok s
unfolding bounded_at
bounded_again s ok key end = rw (long_from s key end, ordered_again s ok.ordered) refl

-- ---- the two laws

abbrev made_latch : Access → Pair → Stamp → Latch
made_latch a s t = record { access = a; span = s; stamp = t }

abbrev timed_span : Latch → TimedSpan
timed_span l = (l.span, l.stamp)

latch_text_is : (l : Latch) → latch_text l ≡ access_text l.access ++ timed_text (timed_span l)
latch_text_is l = append_assoc (access_text l.access) (span_text l.span) (stamp_text l.stamp)

text_from : (f rest : List ℕ) (a : Access) (p : TimedSpan) → f ≡ access_text a ++ rest → rest ≡ timed_text p → f ≡ latch_text (made_latch a p.0 p.1)
text_from f rest a p e g = e ∙ ap (λ (x : List ℕ). access_text a ++ x) g ∙ sym (latch_text_is (made_latch a p.0 p.1))

same_latch : (a : Access) (s p : Pair) (t : Stamp) (l : Latch) → s ≡ p → done {C = ℕ} (made_latch a p t) ≡ done l → made_latch a s t ≡ l
same_latch a s p t l e g = ap (λ (x : Pair). made_latch a x t) e ∙ ok_is {C = ℕ} (made_latch a p t) l g

pub latch_takes : (f : List ℕ) (l : Latch) → latch_at f ≡ Ok l → (f ≡ latch_text l) × IsScriptLatch l
unfolding latch_at
latch_takes f l e =
    let a = ok_bound (or_cause 8 (access_at f))
    (λ access. or_cause 8 (timed_at (drop 2 f)) >>= λ place. bounded_at place.0 >>= λ span. Ok (made_latch access span place.1)) l e in
    let b = ok_bound (or_cause 8 (timed_at (drop 2 f))) (λ place. bounded_at place.0 >>= λ span. Ok (made_latch a.0 span place.1)) l a.2 in
    let c = ok_bound (bounded_at b.0.0) (λ span. Ok (made_latch a.0 span b.0.1)) l b.2 in
    let access = access_takes f a.0 (cause_ok 8 (access_at f) a.0 a.1) in
    let place = timed_takes (drop 2 f) b.0 (cause_ok 8 (timed_at (drop 2 f)) b.0 b.1) in
    let bounded = bounded_takes b.0.0 c.0 place.1.0 c.1 in
    let m = made_latch a.0 b.0.0 b.0.1 in
    let same : m ≡ l = same_latch a.0 b.0.0 c.0 b.0.1 l bounded.0 c.2 in
    let is : IsScriptLatch m = record
    { span = bounded.1; key = place.1.0.some; key_fits = bounded.2; end_fits = bounded.3; wall = place.1.1.wall; logical = place.1.1.logical } in
    subst (λ (x : Latch). (f ≡ latch_text x) × IsScriptLatch x) {x = m} same (text_from f (drop 2 f) a.0 b.0 access place.0, is)

latch_read : (l : Latch) → IsScriptLatch l → latch_at (access_text l.access ++ timed_text (timed_span l)) ≡ Ok l
unfolding latch_at
latch_read l ok =
    let p = timed_span l in
    let timed : IsTimed p = (record { some = ok.key; key = ok.span.key.bytes; end = ok.span.end.bytes }, record { wall = ok.wall; logical = ok.logical }) in
    rw (
      access_again l.access (timed_text p),
      behind_access l.access (timed_text p),
      timed_again p timed,
      bounded_again l.span ok.span ok.key_fits
          ok.end_fits,
    ) refl

pub latch_again : (l : Latch) → IsScriptLatch l → latch_at (latch_text l) ≡ Ok l
latch_again l ok = ap latch_at (latch_text_is l) ∙ latch_read l ok
