-- Texts that need no escape.
use Rattle.std.proofs.Common.{◌≡◌, ℕ, ◌^◌, ◌<◌, Bool, true, not, ◌||◌, List, [], ◌∷◌, ◌++◌, bytes_eq, codes, decimal, refl, ap}
use Rattle.std.proofs.Common.{◌∙◌, inl, inr, arith}
use Rattle.std.proofs.lemmas.Bool.{agree_below_at, not-true, or_cases}
use Rattle.std.proofs.lemmas.Bool.Decides.{nat_tests}
use Rattle.std.proofs.lemmas.Slice.Eq.{bytes_eq-Decides}
use Rattle.std.proofs.lemmas.Str.{IsUtf8-from_ascii}
use Rattle.std.proofs.lemmas.Str.Ascii.{IsAscii-nil, IsAscii-cons}
use Rattle.std.specs.Char.{is_ascii_digit}
use Rattle.std.specs.Str.{IsAscii, IsUtf8}
use Rattle.json.specs.Print.{escape, escape_byte}
use Rattle.span_key.specs.Spans.{IsSpan, Pair}
use Rattle.latch_model.specs.declared.latch.Access.{Access}
use Rattle.latch_model.specs.declared.latch.Access.TheVariants.{Read, Write}
use Rattle.latch_model.specs.declared.latch.Latch.{Latch}
use Rattle.latch_model.specs.declared.latch.Mode.{Mode}
use Rattle.latch_model.specs.declared.latch.Mode.TheVariants.{Acquire, Optimistic, Look}
use Rattle.latch_model.specs.declared.latch.Policy.{Policy}
use Rattle.latch_model.specs.declared.latch.Policy.TheVariants.{Wait as policy_wait, Error}
use Rattle.latch_model.specs.declared.history.Cause.TheVariants.{From}
use Rattle.latch_model.specs.declared.history.Fault.TheVariants.{Poisoned, Cancelled}
use Rattle.latch_model.specs.declared.history.Grant.TheVariants.{Waited}
use Rattle.hex.specs.Hex.{encode_lower}
use Rattle.script.specs.Commands.{mode_text, policy_text}
use Rattle.script.specs.Fields.{is_hex}
use Rattle.script.specs.Texts.{access_text, latch_text, span_text, stamp_text}
use Rattle.script.proofs.Laws.Bytes.{Each, Each-append, Each-cons, Each-parts, Each-weaker}
use Rattle.script.proofs.Laws.Keys.{Each-encode_lower}
use Rattle.script.proofs.Laws.Numbers.{Each-decimal}
use Rattle.script.proofs.Laws.Stamps.{Each-stamp_text, is_stamp_byte}
use Rattle.report.specs.Json.{quoted}
use Rattle.report.specs.Plain.{is_plain, shown, sound}
use Rattle.report.specs.Reports.{cause_text, fault_text, grant_text}
use Rattle.serde_json.specs.Data.{string}

-- ---- a plain byte is written as it is

abbrev stays : ℕ → Bool
stays c = not (is_plain c) || bytes_eq (escape_byte c) (c ∷ [])

abbrev always : ℕ → Bool
always c = true

stays_below : (c : ℕ) → c < 128 → stays c ≡ true
unfolding escape_byte
stays_below c lt = agree_below_at stays always 128 c refl lt

plain_below : (c : ℕ) → is_plain c ≡ true → c < 128
plain_below c h = grind (arith, nat_tests)

plain_byte : (c : ℕ) → is_plain c ≡ true → escape_byte c ≡ c ∷ []
plain_byte c h = elim (or_cases (not (is_plain c)) (bytes_eq (escape_byte c) (c ∷ [])) (stays_below c (plain_below c h))) [
  | inl n ↦ absurd (let m = not-true (is_plain c) n in cc)
  | inr q ↦ (bytes_eq-Decides (escape_byte c) (c ∷ [])).0 q
]

plain_escape : (s : List ℕ) → Each is_plain s → escape s ≡ s
plain_escape [] h = refl
plain_escape (c ∷ s) h =
    let g = Each-parts is_plain c s h in
    ap (λ v. v ++ escape s) (plain_byte c g.0) ∙ ap (λ v. c ∷ v) (plain_escape s g.1)

pub plain_shown : (s : List ℕ) → Each is_plain s → shown (string s) ≡ sound (quoted s)
plain_shown s h = ap (λ v. sound (34 ∷ (v ++ 34 ∷ []))) (plain_escape s h)

plain_ascii : (s : List ℕ) → Each is_plain s → IsAscii s
plain_ascii [] h = IsAscii-nil
plain_ascii (c ∷ s) h = let g = Each-parts is_plain c s h in IsAscii-cons c s (plain_below c g.0) (plain_ascii s g.1)

pub plain_utf8 : (s : List ℕ) → Each is_plain s → IsUtf8 s
plain_utf8 s h = IsUtf8-from_ascii s (plain_ascii s h)

-- ---- the words

pub plain_mode : (m : Mode) → Each is_plain (mode_text m)
plain_mode Acquire = refl
plain_mode Optimistic = refl
plain_mode Look = refl

pub plain_policy : (p : Policy) → Each is_plain (policy_text p)
plain_policy policy_wait = refl
plain_policy Error = refl

plain_digit : (c : ℕ) → is_ascii_digit c ≡ true → is_plain c ≡ true
plain_digit c h = grind arith

plain_number : (word : List ℕ) (n : ℕ) → n < 2 ^ 64 → Each is_plain word → Each is_plain (word ++ decimal n)
plain_number word n lt h = Each-append is_plain word (decimal n) h (Each-weaker is_ascii_digit is_plain plain_digit (decimal n) (Each-decimal n lt))

pub plain_called : (n : ℕ) → n < 2 ^ 64 → Each is_plain (cause_text (From n))
plain_called n lt = plain_number (codes "from=") n lt refl

pub plain_poisoned : (n : ℕ) → n < 2 ^ 64 → Each is_plain (fault_text (Poisoned n))
plain_poisoned n lt = plain_number (codes "poisoned=") n lt refl

pub plain_cancelled : (n : ℕ) → n < 2 ^ 64 → Each is_plain (fault_text (Cancelled n))
plain_cancelled n lt = plain_number (codes "cancelled=") n lt refl

pub plain_waited : (n : ℕ) → n < 2 ^ 64 → Each is_plain (grant_text (Waited n))
plain_waited n lt = plain_number (codes "waited=") n lt refl

-- ---- latches

plain_hex : (c : ℕ) → is_hex c ≡ true → is_plain c ≡ true
plain_hex c h = grind arith

plain_stamp : (c : ℕ) → is_stamp_byte c ≡ true → is_plain c ≡ true
plain_stamp c h = grind arith

plain_access : (a : Access) → Each is_plain (access_text a)
plain_access Read = refl
plain_access Write = refl

plain_span : (s : Pair) → IsSpan s → Each is_plain (span_text s)
plain_span (key, []) ok = Each-weaker is_hex is_plain plain_hex (encode_lower key) (Each-encode_lower key ok.key.bytes)
plain_span (key, b ∷ bs) ok =
    Each-append is_plain (encode_lower key) (45 ∷ encode_lower (b ∷ bs))
    (Each-weaker is_hex is_plain plain_hex (encode_lower key) (Each-encode_lower key ok.key.bytes))
    (Each-cons is_plain 45 (encode_lower (b ∷ bs)) refl
    (Each-weaker is_hex is_plain plain_hex (encode_lower (b ∷ bs)) (Each-encode_lower (b ∷ bs) ok.end.bytes)))

pub plain_latch : (l : Latch) → IsSpan l.span → l.stamp.wall < 2 ^ 64 → l.stamp.logical < 2 ^ 32 → Each is_plain (latch_text l)
plain_latch l span wall logical =
    Each-append is_plain (access_text l.access ++ span_text l.span) (stamp_text l.stamp)
    (Each-append is_plain (access_text l.access) (span_text l.span) (plain_access l.access) (plain_span l.span span))
    (Each-weaker is_stamp_byte is_plain plain_stamp (stamp_text l.stamp) (Each-stamp_text l.stamp (record { wall = wall; logical = logical })))
