-- A command is spelled in one way, by the fields of its line.
use Rattle.std.proofs.Common.{◌≡◌, ℕ, true, cond, List, [], ◌∷◌, map, Option, Some, None, Ok, decimal, codes, refl, ap, subst, ◌∙◌, inl, inr, IsTrue, arith}
use Rattle.std.specs.Str.{bytes_eq}
use Rattle.std.proofs.lemmas.Slice.Eq.{bytes_eq-Decides}
use Rattle.latch_model.specs.declared.latch.Latch.{Latch}
use Rattle.latch_model.specs.declared.latch.Mode.{Mode}
use Rattle.latch_model.specs.declared.latch.Mode.TheVariants.{Acquire, Optimistic, Look}
use Rattle.latch_model.specs.declared.latch.Policy.{Policy}
use Rattle.latch_model.specs.declared.latch.Policy.TheVariants.{Wait as policy_wait, Error}
use Rattle.script.specs.declared.command.Command.{Command}
use Rattle.script.specs.declared.limits.TheConstants.{SESSION_LIMIT}
use Rattle.script.specs.declared.command.Command.TheVariants.{Begin, Wait, Check, Poison, Release, Metrics}
use Rattle.script.specs.Fields.{◌>>=◌, or_cause, number_at, name_at, policy_at}
use Rattle.script.specs.Lines.{few_at, rest_at, opening_at, named_at, check_at, metrics_at, command_at}
use Rattle.script.specs.Commands.{mode_text, policy_text, fields_of}
use Rattle.script.specs.Scripts.{is_name, IsOpening, IsCommand}
use Rattle.script.specs.Texts.{latch_text}
use Rattle.script.proofs.Laws.Steps.{some_is, some_when, ok_bound, ok_is, cause_ok, chosen, ok_when}
use Rattle.script.proofs.Laws.Numbers.{number_takes, number_again}
use Rattle.script.proofs.Laws.Lists.{few_takes, few_again, rest_fields, rest_takes, rest_again}

-- ---- names and policies

name_takes : (t n : List ℕ) → name_at t ≡ Some n → (t ≡ n) × IsTrue (is_name n)
unfolding name_at
name_takes t n e = let s = some_when (is_name t) t n e in (s.1, subst (λ (x : List ℕ). is_name x ≡ true) s.1 s.0)

name_again : (n : List ℕ) → IsTrue (is_name n) → name_at n ≡ Some n
unfolding name_at
name_again n ok = rw ok refl

word_takes : (word text : List ℕ) → bytes_eq word text ≡ true → word ≡ text
word_takes word text h = (bytes_eq-Decides word text).0 h

policy_takes : (t : List ℕ) (p : Policy) → policy_at t ≡ Some p → t ≡ policy_text p
unfolding policy_at
policy_takes t p e =
    elim (chosen (bytes_eq t (codes "wait")) (Some policy_wait) (cond (bytes_eq t (codes "error")) (Some Error) None) (Some p) e) [
      | inl w ↦ subst (λ (x : Policy). t ≡ policy_text x) (some_is policy_wait p w.1) (word_takes t (codes "wait") w.0)
      | inr other ↦
          let s = some_when (bytes_eq t (codes "error")) Error p other.1 in
          subst (λ (x : Policy). t ≡ policy_text x) s.1 (word_takes t (codes "error") s.0)
    ]

policy_again : (p : Policy) → policy_at (policy_text p) ≡ Some p
unfolding policy_at
policy_again policy_wait = refl
policy_again Error = refl

-- ---- the commands behind their words

abbrev Reads : List (List ℕ) → Command → Type 0
Reads fs c = (fs ≡ fields_of c) × IsCommand c

four : (w s n p : List ℕ) (more : List (List ℕ)) (x y z : List ℕ) (rest : List (List ℕ)) → s ≡ x → n ≡ y → p ≡ z → more ≡ rest
    → w ∷ s ∷ n ∷ p ∷ more ≡ w ∷ x ∷ y ∷ z ∷ rest
four w s n p more x y z rest a b c d = cc

opening_takes : (mode : Mode) (fs : List (List ℕ)) (c : Command) → opening_at mode fs ≡ Ok c → Reads (mode_text mode ∷ fs) c
unfolding opening_at
opening_takes mode [] c e = absurd cc
opening_takes mode (session ∷ []) c e = absurd cc
opening_takes mode (session ∷ name ∷ []) c e = absurd cc
opening_takes mode (session ∷ name ∷ policy ∷ more) c e =
    let s = ok_bound (or_cause 4 (number_at 1 SESSION_LIMIT session))
    (λ s. or_cause 5 (name_at name) >>= λ n. or_cause 6 (policy_at policy) >>= λ p. rest_at more >>= λ r. Ok (Begin s n mode p r.0 r.1)) c e in
    let n = ok_bound (or_cause 5 (name_at name)) (λ n. or_cause 6 (policy_at policy) >>= λ p. rest_at more >>= λ r. Ok (Begin s.0 n mode p r.0 r.1)) c s.2 in
    let p = ok_bound (or_cause 6 (policy_at policy)) (λ p. rest_at more >>= λ r. Ok (Begin s.0 n.0 mode p r.0 r.1)) c n.2 in
    let r = ok_bound (rest_at more) (λ r. Ok (Begin s.0 n.0 mode p.0 r.0 r.1)) c p.2 in
    let is_session = number_takes 1 SESSION_LIMIT session s.0 (omega arith) (cause_ok 4 (number_at 1 SESSION_LIMIT session) s.0 s.1) in
    let is_named = name_takes name n.0 (cause_ok 5 (name_at name) n.0 n.1) in
    let is_policy = policy_takes policy p.0 (cause_ok 6 (policy_at policy) p.0 p.1) in
    let is_rest = rest_takes more r.0 r.1 in
    let made = Begin s.0 n.0 mode p.0 r.0.0 r.0.1 in
    let is : IsOpening s.0 n.0 r.0.0 r.0.1 = record
    { session_low = is_session.1; session_high = is_session.2; name_spelled = is_named.1; turns_range = is_rest.1.0; latches_fit = is_rest.1.1 } in
    subst (Reads (mode_text mode ∷ session ∷ name ∷ policy ∷ more)) {x = made} (ok_is {C = ℕ} made c r.2)
    (four (mode_text mode) session name policy more (decimal s.0) n.0 (policy_text p.0) (rest_fields r.0) is_session.0 is_named.0 is_policy is_rest.0, is)

opening_again : (session : ℕ) (name : List ℕ) (mode : Mode) (policy : Policy) (turns : Option ℕ) (latches : List Latch) → IsOpening session name turns latches
    → opening_at mode (decimal session ∷ name ∷ policy_text policy ∷ rest_fields (turns, latches)) ≡ Ok (Begin session name mode policy turns latches)
unfolding opening_at
opening_again session name mode policy turns latches ok =
    rw (
      number_again 1 SESSION_LIMIT session (omega arith) ok.session_low ok.session_high,
      name_again name ok.name_spelled,
      policy_again policy,
      rest_again
          turns latches (ok.turns_range, ok.latches_fit),
    ) refl

named_takes : (fs : List (List ℕ)) (n : List ℕ) → named_at fs ≡ Ok n → (fs ≡ n ∷ []) × IsTrue (is_name n)
unfolding named_at
named_takes [] n e = absurd cc
named_takes (name ∷ f ∷ fs) n e = absurd cc
named_takes (name ∷ []) n e =
    let a = name_takes name n (cause_ok 5 (name_at name) n e) in
    (ap (λ (x : List ℕ). x ∷ []) a.0, a.1)

named_again : (n : List ℕ) → IsTrue (is_name n) → named_at (n ∷ []) ≡ Ok n
unfolding named_at
named_again n ok = rw (name_again n ok) refl

check_takes : (fs : List (List ℕ)) (c : Command) → check_at fs ≡ Ok c → Reads (codes "check" ∷ fs) c
unfolding check_at
check_takes [] c e = absurd cc
check_takes (name ∷ fs) c e =
    let n = ok_bound (or_cause 5 (name_at name)) (λ n. few_at fs >>= λ latches. Ok (Check n latches)) c e in
    let l = ok_bound (few_at fs) (λ latches. Ok (Check n.0 latches)) c n.2 in
    let an = name_takes name n.0 (cause_ok 5 (name_at name) n.0 n.1) in
    let al = few_takes fs l.0 l.1 in
    let whole : codes "check" ∷ name ∷ fs ≡ codes "check" ∷ n.0 ∷ map latch_text l.0 = ap (λ (x : List ℕ). codes "check" ∷ x ∷ fs) an.0
    ∙ ap (λ (x : List (List ℕ)). codes "check" ∷ n.0 ∷ x) al.0 in
    subst (Reads (codes "check" ∷ name ∷ fs)) (ok_is {C = ℕ} (Check n.0 l.0) c l.2) (whole, (an.1, al.1))

metrics_takes : (fs : List (List ℕ)) (c : Command) → metrics_at fs ≡ Ok c → Reads (codes "metrics" ∷ fs) c
unfolding metrics_at
metrics_takes [] c e = subst (Reads (codes "metrics" ∷ [])) (ok_is {C = ℕ} Metrics c e) (refl, tt)
metrics_takes (f ∷ fs) c e = absurd cc

-- ---- the words

same_word : (word text : List ℕ) (more : List (List ℕ)) (c : Command) → bytes_eq word text ≡ true → Reads (text ∷ more) c → Reads (word ∷ more) c
same_word word text more c h r = (ap (λ (x : List ℕ). x ∷ more) (word_takes word text h) ∙ r.0, r.1)

wait_takes : (more : List (List ℕ)) (c : Command) → (named_at more >>= λ n. Ok (Wait n)) ≡ Ok c → Reads (codes "wait" ∷ more) c
wait_takes more c e =
    let a = ok_bound (named_at more) (λ n. Ok (Wait n)) c e in
    let n = named_takes more a.0 a.1 in
    subst (Reads (codes "wait" ∷ more)) (ok_is {C = ℕ} (Wait a.0) c a.2) (ap (λ (x : List (List ℕ)). codes "wait" ∷ x) n.0, n.1)

poison_takes : (more : List (List ℕ)) (c : Command) → (named_at more >>= λ n. Ok (Poison n)) ≡ Ok c → Reads (codes "poison" ∷ more) c
poison_takes more c e =
    let a = ok_bound (named_at more) (λ n. Ok (Poison n)) c e in
    let n = named_takes more a.0 a.1 in
    subst (Reads (codes "poison" ∷ more)) (ok_is {C = ℕ} (Poison a.0) c a.2) (ap (λ (x : List (List ℕ)). codes "poison" ∷ x) n.0, n.1)

release_takes : (more : List (List ℕ)) (c : Command) → (named_at more >>= λ n. Ok (Release n)) ≡ Ok c → Reads (codes "release" ∷ more) c
release_takes more c e =
    let a = ok_bound (named_at more) (λ n. Ok (Release n)) c e in
    let n = named_takes more a.0 a.1 in
    subst (Reads (codes "release" ∷ more)) (ok_is {C = ℕ} (Release a.0) c a.2) (ap (λ (x : List (List ℕ)). codes "release" ∷ x) n.0, n.1)

pub command_takes : (fs : List (List ℕ)) (c : Command) → command_at fs ≡ Ok c → (fs ≡ fields_of c) × IsCommand c
unfolding command_at
command_takes [] c e = absurd cc
command_takes (word ∷ more) c e =
    elim (chosen (bytes_eq word (codes "acquire")) (opening_at Acquire more) _ (Ok c) e) [
      | inl h ↦ same_word word (codes "acquire") more c h.0 (opening_takes Acquire more c h.1)
      | inr e1 ↦ elim (chosen (bytes_eq word (codes "optimistic")) (opening_at Optimistic more) _ (Ok c) e1.1) [
        | inl h ↦ same_word word (codes "optimistic") more c h.0 (opening_takes Optimistic more c h.1)
        | inr e2 ↦ elim (chosen (bytes_eq word (codes "look")) (opening_at Look more) _ (Ok c) e2.1) [
          | inl h ↦ same_word word (codes "look") more c h.0 (opening_takes Look more c h.1)
          | inr e3 ↦ elim (chosen (bytes_eq word (codes "wait")) (named_at more >>= λ n. Ok (Wait n)) _ (Ok c) e3.1) [
            | inl h ↦ same_word word (codes "wait") more c h.0 (wait_takes more c h.1)
            | inr e4 ↦ elim (chosen (bytes_eq word (codes "check")) (check_at more) _ (Ok c) e4.1) [
              | inl h ↦ same_word word (codes "check") more c h.0 (check_takes more c h.1)
              | inr e5 ↦ elim (chosen (bytes_eq word (codes "poison")) (named_at more >>= λ n. Ok (Poison n)) _ (Ok c) e5.1) [
                | inl h ↦ same_word word (codes "poison") more c h.0 (poison_takes more c h.1)
                | inr e6 ↦ elim (chosen (bytes_eq word (codes "release")) (named_at more >>= λ n. Ok (Release n)) _ (Ok c) e6.1) [
                  | inl h ↦ same_word word (codes "release") more c h.0 (release_takes more c h.1)
                  | inr e7 ↦
                      let m = ok_when (bytes_eq word (codes "metrics")) 3 (metrics_at more) c e7.1 in
                      same_word word (codes "metrics") more c m.0 (metrics_takes more c m.1)
                ]
              ]
            ]
          ]
        ]
      ]
    ]

pub command_again : (c : Command) → IsCommand c → command_at (fields_of c) ≡ Ok c
unfolding command_at check_at metrics_at
command_again (Begin session name Acquire policy turns latches) ok = opening_again session name Acquire policy turns latches ok
command_again (Begin session name Optimistic policy turns latches) ok = opening_again session name Optimistic policy turns latches ok
command_again (Begin session name Look policy turns latches) ok = opening_again session name Look policy turns latches ok
command_again (Wait name) ok = rw (named_again name ok) refl
command_again (Check name latches) ok = rw (name_again name ok.0, few_again latches ok.1) refl
command_again (Poison name) ok = rw (named_again name ok) refl
command_again (Release name) ok = rw (named_again name ok) refl
command_again Metrics ok = refl
