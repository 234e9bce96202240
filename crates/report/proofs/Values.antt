-- How lists of values and objects are shown as JSON, by how what is in them is shown.
use Rattle.std.proofs.Common.{◌≡◌, ℕ, Bool, true, false, ◌||◌, List, [], ◌∷◌, ◌++◌, map, codes, decimal, refl, ap, sym, subst, ◌∙◌, append_assoc}
use Rattle.std.specs.List.{AllByRecursion, flat_map, join_with_byte}
use Rattle.json.specs.Print as json
use Rattle.serde_json.specs.Data.{Data, array, object, number, unsigned, Members, no_members, member}
use Rattle.serde_json.specs.View.{items_view, view}
use Rattle.serde_json.specs.declared.value.Value.{Value}
use Rattle.serde_json.specs.Written.{compact_text, items_have_float, items_text, members_have_float, members_text}
use Rattle.latch_model.specs.Declaration.{Declaration}
use Rattle.latch_model.specs.declared.latch.Latch.{Latch}
use Rattle.latch_model.specs.declared.latch.Mode.{Mode}
use Rattle.latch_model.specs.Histories.{before}
use Rattle.latch_model.specs.declared.history.Cause.{Cause}
use Rattle.latch_model.specs.declared.history.Entry.{Entry}
use Rattle.latch_model.specs.declared.history.Entry.TheVariants.{Begun, Ended}
use Rattle.latch_model.specs.declared.history.Fault.{Fault}
use Rattle.latch_model.specs.declared.history.Grant.{Grant}
use Rattle.script.specs.Commands.{mode_text, policy_text}
use Rattle.script.proofs.Laws.Bytes.{Each}
use Rattle.report.specs.Json as text
use Rattle.report.specs.Json.{begin_json, end_json, entry_json, latch_list, listed, quoted, report_json, summary_json}
use Rattle.report.specs.Passing.{ArePrerequisites}
use Rattle.report.specs.Plain.{is_plain, shown, sound}
use Rattle.report.specs.Reports.{cause_text, checked_latches, fault_text, grant_text}
use Rattle.report.specs.Words.{summary_of}
use Rattle.report.specs.declared.counts.Summary.{Summary}
use Rattle.report.proofs.Commas.{join_from_first}
use Rattle.report.proofs.Plain.{plain_shown}

-- ---- lists

head_same : {X : Type 0} (x y : X) (xs ys : List X) → x ∷ xs ≡ y ∷ ys → x ≡ y
head_same x y xs ys e = cc

tail_same : {X : Type 0} (x y : X) (xs ys : List X) → x ∷ xs ≡ y ∷ ys → xs ≡ ys
tail_same x y xs ys e = cc

-- the items behind the first
items_behind : {X : Type 0} (f : X → List ℕ) (vs : List Value) (xs : List X) → map (λ v. shown (view v)) vs ≡ map (λ x. sound (f x)) xs
    → (items_have_float (items_view vs) ≡ false) × (items_text true (items_view vs) ≡ flat_map (λ s. 44 ∷ s) (map f xs) ++ 93 ∷ [])
items_behind f [] [] e = (refl, refl)
items_behind f [] (x ∷ xs) e = absurd cc
items_behind f (v ∷ vs) [] e = absurd cc
items_behind f (v ∷ vs) (x ∷ xs) e =
    let first = head_same (shown (view v)) (sound (f x)) _ _ e in
    let rest = items_behind f vs xs (tail_same (shown (view v)) (sound (f x)) _ _ e) in
    let whole = ap (λ (p : Bool × List ℕ). p.0 || items_have_float (items_view vs)) first ∙ rest.0 in
    let written = ap (λ (p : Bool × List ℕ). 44 ∷ (p.1 ++ items_text true (items_view vs))) first ∙ ap (λ r. 44 ∷ (f x ++ r)) rest.1 in
    (whole, written ∙ ap (λ r. 44 ∷ r) (sym (append_assoc (f x) (flat_map (λ s. 44 ∷ s) (map f xs)) (93 ∷ []))))

pub list_shown : {X : Type 0} (f : X → List ℕ) (vs : List Value) (xs : List X) → map (λ v. shown (view v)) vs ≡ map (λ x. sound (f x)) xs
    → shown (array (items_view vs)) ≡ sound (listed (map f xs))
list_shown f [] [] e = refl
list_shown f [] (x ∷ xs) e = absurd cc
list_shown f (v ∷ vs) [] e = absurd cc
list_shown f (v ∷ vs) (x ∷ xs) e =
    let first = head_same (shown (view v)) (sound (f x)) _ _ e in
    let rest = items_behind f vs xs (tail_same (shown (view v)) (sound (f x)) _ _ e) in
    let whole = ap (λ (p : Bool × List ℕ). p.0 || items_have_float (items_view vs)) first ∙ rest.0 in
    let written : compact_text (array (items_view (v ∷ vs))) ≡ listed (map f (x ∷ xs)) =
    ap (λ (p : Bool × List ℕ). 91 ∷ (p.1 ++ items_text true (items_view vs))) first ∙ ap (λ r. 91 ∷ (f x ++ r)) rest.1
    ∙ ap (λ r. 91 ∷ r) (sym (append_assoc (f x) (flat_map (λ s. 44 ∷ s) (map f xs)) (93 ∷ [])))
    ∙ ap (λ r. 91 ∷ (r ++ 93 ∷ [])) (sym (join_from_first (f x) (map f xs))) in
    ap (λ b. (b, compact_text (array (items_view (v ∷ vs))))) whole ∙ ap sound written

-- ---- objects

-- a key, its value, and the text of that
abbrev Field : Type 0
Field = List ℕ × Data × List ℕ

abbrev members_of : List Field → Members
members_of [] = no_members
members_of (f ∷ fs) = member f.0 f.1 (members_of fs)

abbrev texts_of : List Field → List (List ℕ)
texts_of fs = map (λ f. text.member f.0 f.2) fs

abbrev IsShown : Field → Type 0
IsShown f = Each is_plain f.0 × (shown f.1 ≡ sound f.2)

member_text : (k t d jk rest : List ℕ) → jk ≡ quoted k → d ≡ t → jk ++ (58 ∷ (d ++ rest)) ≡ text.member k t ++ rest
member_text k t d jk rest ek ed =
    ap (λ j. j ++ (58 ∷ (d ++ rest))) ek ∙ ap (λ v. quoted k ++ (58 ∷ (v ++ rest))) ed ∙ sym (append_assoc (quoted k) (58 ∷ t) rest)

members_behind : (fs : List Field) → AllByRecursion IsShown fs
    → (members_have_float (members_of fs) ≡ false) × (members_text true (members_of fs) ≡ flat_map (λ s. 44 ∷ s) (texts_of fs) ++ 125 ∷ [])
members_behind [] h = (refl, refl)
members_behind (f ∷ fs) h =
    let rest = members_behind fs h.1 in
    let value = h.0.1 in
    let behind = members_text true (members_of fs) in
    let whole = ap (λ (p : Bool × List ℕ). p.0 || members_have_float (members_of fs)) value ∙ rest.0 in
    let key = ap (λ (p : Bool × List ℕ). p.1) (plain_shown f.0 h.0.0) in
    let written = member_text f.0 f.2 (compact_text f.1) (json.quoted f.0) behind key (ap (λ (p : Bool × List ℕ). p.1) value) in (
      whole,
      ap (λ r. 44 ∷ r) (written ∙ ap (λ r. text.member f.0 f.2 ++ r) rest.1
          ∙ sym (append_assoc (text.member f.0 f.2) (flat_map (λ s. 44 ∷ s) (texts_of fs)) (125 ∷ []))),
    )

object_shown : (f : Field) (fs : List Field) → AllByRecursion IsShown (f ∷ fs) → shown (object (members_of (f ∷ fs))) ≡ sound (text.object (texts_of (f ∷ fs)))
object_shown f fs h =
    let rest = members_behind fs h.1 in
    let value = h.0.1 in
    let behind = members_text true (members_of fs) in
    let whole = ap (λ (p : Bool × List ℕ). p.0 || members_have_float (members_of fs)) value ∙ rest.0 in
    let key = ap (λ (p : Bool × List ℕ). p.1) (plain_shown f.0 h.0.0) in
    let first = member_text f.0 f.2 (compact_text f.1) (json.quoted f.0) behind key (ap (λ (p : Bool × List ℕ). p.1) value) in
    let written : compact_text (object (members_of (f ∷ fs))) ≡ text.object (texts_of (f ∷ fs)) =
    ap (λ r. 123 ∷ r) (first ∙ ap (λ r. text.member f.0 f.2 ++ r) rest.1
    ∙ sym (append_assoc (text.member f.0 f.2) (flat_map (λ s. 44 ∷ s) (texts_of fs)) (125 ∷ []))
    ∙ ap (λ r. r ++ 125 ∷ []) (sym (join_from_first (text.member f.0 f.2) (texts_of fs)))) in
    ap (λ b. (b, compact_text (object (members_of (f ∷ fs))))) whole ∙ ap sound written

pub begin_shown : (ids : List ℕ) (id lane who : ℕ) (mode : Mode) (request : Declaration) (before latches m p : Data)
    (line : ℕ) (ls : List Latch) (mode_word policy_word : List ℕ)
    → line ≡ request.tag → ls ≡ request.latches → mode_word ≡ mode_text mode → policy_word ≡ policy_text request.policy
    → shown before ≡ sound (listed (map decimal ids)) → shown latches ≡ sound (latch_list ls)
    → shown m ≡ sound (quoted mode_word) → shown p ≡ sound (quoted policy_word)
    → shown (object (
    member (codes "before") before (
    member (codes "begin") (number (unsigned id)) (
    member (codes "lane") (number (unsigned lane)) (
    member (codes "latches") latches (
    member (codes "line") (number (unsigned line)) (
    member (codes "mode") m (
    member (codes "policy") p (
    member (codes "session") (number (unsigned who)) no_members))))))))) ≡ sound (begin_json ids id lane who mode request)
begin_shown ids id lane who mode request before latches m p line ls mode_word policy_word is_tag is_latches is_mode is_policy hb hl hm hp =
    object_shown (codes "before", before, listed (map decimal ids)) (
    (codes "begin", number (unsigned id), decimal id)
    ∷ (codes "lane", number (unsigned lane), decimal lane)
    ∷ (codes "latches", latches, latch_list request.latches)
    ∷ (codes "line", number (unsigned line), decimal request.tag)
    ∷ (codes "mode", m, quoted (mode_text mode))
    ∷ (codes "policy", p, quoted (policy_text request.policy))
    ∷ (codes "session", number (unsigned who), decimal who)
    ∷ []) (
      (refl, hb),
      (
        (refl, refl),
        (
          (refl, refl),
          (
            (refl, hl ∙ ap (λ xs. sound (latch_list xs)) is_latches),
            (
              (refl, ap (λ n. sound (decimal n)) is_tag),
              (
                (refl, hm ∙ ap (λ t. sound (quoted t)) is_mode),
                ((refl, hp ∙ ap (λ t. sound (quoted t)) is_policy), ((refl, refl), tt)),
              ),
            ),
          ),
        ),
      ),
    )

pub end_shown : (id : ℕ) (grant : Grant) (poison : Cause) (fault : Fault) (c f g latches : Data) (ls : List Latch) → ls ≡ checked_latches grant
    → shown c ≡ sound (quoted (cause_text poison)) → shown f ≡ sound (quoted (fault_text fault)) → shown g ≡ sound (quoted (grant_text grant))
    → shown latches ≡ sound (latch_list ls)
    → shown (object (
    member (codes "cause") c (
    member (codes "end") (number (unsigned id)) (
    member (codes "fault") f (
    member (codes "grant") g (
    member (codes "latches") latches no_members)))))) ≡ sound (end_json id grant poison fault)
end_shown id grant poison fault c f g latches ls is_latches hc hf hg hl =
    object_shown (codes "cause", c, quoted (cause_text poison)) (
    (codes "end", number (unsigned id), decimal id)
    ∷ (codes "fault", f, quoted (fault_text fault))
    ∷ (codes "grant", g, quoted (grant_text grant))
    ∷ (codes "latches", latches, latch_list (checked_latches grant))
    ∷ []) ((refl, hc), ((refl, refl), ((refl, hf), ((refl, hg), ((refl, hl ∙ ap (λ xs. sound (latch_list xs)) is_latches), tt)))))

pub summary_shown : (s : Summary) → shown (object (
    member (codes "cancelled") (number (unsigned s.cancelled)) (
    member (codes "checked") (number (unsigned s.checked)) (
    member (codes "granted") (number (unsigned s.granted)) (
    member (codes "never") (number (unsigned s.never)) (
    member (codes "poisoned") (number (unsigned s.poisoned)) (
    member (codes "requests") (number (unsigned s.begun)) no_members))))))) ≡ sound (summary_json s)
summary_shown s =
    object_shown (codes "cancelled", number (unsigned s.cancelled), decimal s.cancelled) (
    (codes "checked", number (unsigned s.checked), decimal s.checked)
    ∷ (codes "granted", number (unsigned s.granted), decimal s.granted)
    ∷ (codes "never", number (unsigned s.never), decimal s.never)
    ∷ (codes "poisoned", number (unsigned s.poisoned), decimal s.poisoned)
    ∷ (codes "requests", number (unsigned s.begun), decimal s.begun)
    ∷ []) ((refl, refl), ((refl, refl), ((refl, refl), ((refl, refl), ((refl, refl), ((refl, refl), tt))))))

-- ---- the report

pub begin_put : (h : List Entry) (e : Entry) (ids : List ℕ) (id lane who : ℕ) (mode : Mode) (request : Declaration) (old new : List ℕ)
    → e ≡ Begun id lane who mode request → ArePrerequisites h ids e → new ≡ old ++ begin_json ids id lane who mode request
    → new ≡ old ++ entry_json h e
begin_put h e ids id lane who mode request old new is own written =
    let own_now : ids ≡ before h id = subst (ArePrerequisites h ids) is own in
    written ∙ ap (λ xs. old ++ begin_json xs id lane who mode request) own_now ∙ ap (λ x. old ++ entry_json h x) (sym is)

pub end_put : (h : List Entry) (e : Entry) (id who : ℕ) (grant : Grant) (poison : Cause) (fault : Fault) (old new : List ℕ)
    → e ≡ Ended id who grant poison fault → new ≡ old ++ end_json id grant poison fault → new ≡ old ++ entry_json h e
end_put h e id who grant poison fault old new is written = written ∙ ap (λ x. old ++ entry_json h x) (sym is)

-- what is written between the entries and the counts
around : (start entries counts : List ℕ)
    → (((start ++ codes "{\"entries\":[") ++ entries) ++ codes "],\"report\":1,\"summary\":") ++ (counts ++ codes "}\n")
    ≡ start ++ (text.object (text.member (codes "entries") (91 ∷ (entries ++ 93 ∷ [])) ∷ text.member (codes "report") (codes "1")
    ∷ text.member (codes "summary") counts ∷ []) ++ codes "\n")
around start entries counts = simp append_assoc

pub report_written : (h : List Entry) (s : Summary) (start a b c d new : List ℕ) → s ≡ summary_of h → a ≡ start ++ codes "{\"entries\":["
    → b ≡ a ++ join_with_byte 44 (map (entry_json h) h) → c ≡ b ++ codes "],\"report\":1,\"summary\":" → d ≡ c ++ summary_json s
    → new ≡ d ++ codes "}\n" → new ≡ start ++ report_json h
report_written h s start a b c d new is ea eb ec ed en =
    let entries : List ℕ = join_with_byte 44 (map (entry_json h) h) in
    en ∙ ap (λ v. v ++ codes "}\n") ed ∙ append_assoc c (summary_json s) (codes "}\n")
    ∙ ap (λ v. v ++ (summary_json s ++ codes "}\n")) (ec ∙ ap (λ v. v ++ codes "],\"report\":1,\"summary\":") (eb ∙ ap (λ v. v ++ entries) ea))
    ∙ around start entries (summary_json s)
    ∙ ap (λ t. start ++ (text.object (text.member (codes "entries") (listed (map (entry_json h) h)) ∷ text.member (codes "report") (codes "1")
    ∷ text.member (codes "summary") (summary_json t) ∷ []) ++ codes "\n")) is
