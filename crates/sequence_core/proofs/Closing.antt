-- The passes of a desk are retired one after another.
use Rattle.std.proofs.Common.{◌≡◌, ◌⊎◌, ◌==◌, ◌&&◌, ◌||◌, ℕ, Bool, true, false, cond, not, List, [], ◌∷◌, ◌++◌, refl, sym, ◌∙◌, ap, subst, inl, inr, arith}
use Rattle.std.proofs.lemmas.Bool.{eq-eqb}
use Rattle.std.proofs.Math.Bool.{or-true}
use Rattle.std.specs.List.{filter}
use Rattle.latch_model.specs.Histories.{Begin, begins, has_begun, has_ended, is_open, open_begins}
use Rattle.latch_model.specs.declared.history.Entry.{Entry}
use Rattle.latch_model.specs.declared.history.Entry.TheVariants.{Begun, Ended}
use Rattle.std.proofs.lemmas.List.Elements.{All-contains}
use Rattle.std.specs.List.{Contains}
use Rattle.atomic_table.specs.Seated.{TableId}
use Rattle.latch_model.proofs.Lists.{Contains-from_In, In, In-append_left, In-append_right, In-from_Contains}
use Rattle.latch_model.proofs.Members.{In-append_cases}
use Rattle.signal_board.specs.Rule.{open_count}
use Rattle.signal_board.specs.Says.{DeskSays, EachRetired, PassSays}
use Rattle.signal_board.specs.Views.{PassView}
use Rattle.sequence_core.specs.Says.{DeskState, HasEachPass}

-- Where each request that has begun is closed, none is open.
begin_has : (h : List Entry) (b : Begin) → In b (begins h) → has_begun h b.id ≡ true
begin_has [] b there = absurd there
begin_has (Begun id lane who mode request ∷ es) b there = elim there [
  | inl e ↦ ap (λ t. t || has_begun es b.id) (eq-eqb id b.id (ap (λ (x : Begin). x.id) e))
  | inr later ↦ ap (λ t. (id == b.id) || t) (begin_has es b later) ∙ or-true (id == b.id)
]
begin_has (Ended id who grant cause fault ∷ es) b there = begin_has es b there

none_open : (p : Begin → Bool) (bs : List Begin) → ((b : Begin) → In b bs → p b ≡ false) → filter p bs ≡ []
none_open p [] none = refl
none_open p (b ∷ bs) none =
    ap (λ t. cond t (b ∷ filter p bs) (filter p bs)) (none b (inl refl)) ∙ none_open p bs (λ x there. none x (inr there))

pub all_closed : (log : List Entry) → ((id : ℕ) → is_open log id ≡ false) → open_begins log ≡ []
all_closed log closed = none_open (λ b. not (has_ended log b.id)) (begins log) (λ b there.
    ap (λ t. t && not (has_ended log b.id)) (sym (begin_has log b there)) ∙ closed b.id)

-- A pass that is left.
pub record IsLeft (table : TableId) (p : PassSays) : Type 0 where
  pub same : p.table ≡ table
  pub idle : open_count p.p.mine ≡ 0

-- Some passes are left, and each other one is kept by the desk's seat for good.
pub record Retires (table : TableId) (first : DeskSays) (all : List PassSays) (seat : DeskSays) (left : List PassSays) : Type 0 where
  pub seat_is : seat ≡ record first { retired = seat.retired }
  pub table_is : first.table ≡ table
  pub each : (p : PassSays) → Contains left p → IsLeft table p
  pub kept : (p : PassSays) → Contains all p → Contains left p ⊎ Contains seat.retired p.p

pub retires_first : (table : TableId) (seat : DeskSays) (d : DeskState) (passes : List PassSays) → seat.table ≡ table → d.core.signals ≡ table →
    HasEachPass d passes → Retires table seat passes seat passes
retires_first table seat d passes is same has = record {
  seat_is = refl;
  table_is = is;
  each = λ p there. record {
    same = All-contains (λ (q : PassSays). q.table ≡ d.core.signals) passes p has.tables there ∙ same;
    idle = All-contains (λ (q : PassSays). open_count q.p.mine ≡ 0) passes p has.idle there;
  };
  kept = λ p there. inl there;
}

module _ (table : TableId) (first : DeskSays) (all : List PassSays) (seat : DeskSays) (left : List PassSays) (r : Retires table first all seat left) where
  -- the last of those that are left
  pub last_left : (rest : List PassSays) (p : PassSays) → left ≡ rest ++ p ∷ [] → IsLeft table p
  last_left rest p is = r.each p (Contains-from_In left p (subst (In p) (sym is) (In-append_right rest (p ∷ []) p (inl refl))))

  -- is kept next
  pub retires_next : (rest : List PassSays) (p : PassSays) (next : DeskSays) → left ≡ rest ++ p ∷ [] → next ≡ record seat { retired = p.p ∷ seat.retired } →
      Retires table first all next rest
  retires_next rest p next is keeps = record {
    seat_is =
        keeps ∙ (ap (λ (d : DeskSays). record d { retired = p.p ∷ seat.retired }) r.seat_is
        ∙ ap (λ (ps : List PassView). record first { retired = ps }) (sym (ap (λ (d : DeskSays). d.retired) keeps)));
    table_is = r.table_is;
    each = λ q there. r.each q (Contains-from_In left q (subst (In q) (sym is) (In-append_left rest (p ∷ []) q (In-from_Contains rest q there))));
    kept = λ q there. elim (r.kept q there) [
      | inl still ↦ elim (In-append_cases rest (p ∷ []) q (subst (In q) is (In-from_Contains left q still))) [
        | inl early ↦ inl (Contains-from_In rest q early)
        | inr last ↦ elim last [
          | inl same ↦ inr (kept_next q.p (inl (ap (λ (x : PassSays). x.p) same)))
          | inr none ↦ absurd none
        ]
      ]
      | inr done ↦ inr (kept_next q.p (inr (In-from_Contains seat.retired q.p done)))
    ];
  }
    where
      kept_next : (v : PassView) → In v (p.p ∷ seat.retired) → Contains next.retired v
      kept_next v there = Contains-from_In next.retired v (subst (In v) (sym (ap (λ (d : DeskSays). d.retired) keeps)) there)

  -- in the end all are kept
  pub all_kept : left ≡ [] → (p : PassSays) → Contains all p → Contains seat.retired p.p
  all_kept none p there = elim (r.kept p there) [
    | inl still ↦ absurd (subst (In p) none (In-from_Contains left p still))
    | inr done ↦ done
  ]

  pub each_kept : left ≡ [] → (d : DeskState) → d.given ≡ seat.given → HasEachPass d all → EachRetired seat
  each_kept none d given has who low high =
      let w = has.each who low (let g = given in omega arith) in
      (w.0.p, all_kept none w.0 w.1, w.2)
