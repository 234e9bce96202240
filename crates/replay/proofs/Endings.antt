-- The request of the last block ends: in front of its release, or at it.
use Rattle.std.proofs.Common.{◌≡◌, ℕ, List, [], ◌∷◌, ◌++◌, length, Some, refl, sym, ◌∙◌, ap, subst}
use Rattle.std.proofs.lemmas.List.{append_assoc}
use Rattle.latch_model.specs.Histories.{Begin, begin_with, entry_of}
use Rattle.latch_model.specs.declared.history.Entry.{Entry}
use Rattle.latch_model.proofs.Growing.{begin_with-append}
use Rattle.script.specs.Follows.{AllMadeBy, Block, EndEntry, MadeBy, declaration_of, passed_in}
use Rattle.signal_board.specs.Rule.{IsPrefix, begun_as, entries}
use Rattle.signal_board.specs.Says.{PassSays}
use Rattle.signal_board.specs.Views.{PassView}
use Rattle.waiter.specs.Says.{EndingSays, OpenedSays}
use Rattle.latch_manager.specs.Making.{Began, Finished, Made, end_entry}
use Rattle.replay.specs.Sessions.{EachBegun, Idle, OpenBlock, Over, OverBy, Standing, end_of}
use Rattle.replay.proofs.Made.{each_begun-more, made_more}
use Rattle.replay.proofs.Openings.{opening_begun, opening_declared, opening_each, opening_entries, opening_made, opening_mode, opening_who}
use Rattle.replay.proofs.Standings.{each_begun-front, each_begun-to, entries-wrote, goes_on-with, made-to}

-- the end of a request, without its session
abbrev pub ends_with : EndingSays → EndEntry
ends_with ending = record { id = ending.r.id; grant = ending.grant; cause = ending.r.cause; fault = ending.fault }

-- A request that an opening began is that of the last block.
abbrev pub opened-is_open : (made : Made) (old new : PassSays) (block : Block) (opened : OpenedSays) →
    Began made old block.mode (declaration_of block) opened new → (bs : List Block) → Standing made.core old.p bs Idle →
    OpenBlock new.p (bs ++ block ∷ []) (begun_as opened.r)
opened-is_open made old new block opened k bs s = record {
  done = bs;
  last = block;
  before = entries old.p.mine;
  blocks = refl;
  all_entries = opening_entries made old new block.mode block opened k bs s;
  each = opening_each made old new block.mode block opened k bs s;
  made = opening_made made old new block.mode block opened k bs s;
  begun = opening_begun made old new block.mode block opened k bs s;
  mode = opening_mode made old new block.mode block opened k bs s;
  declared = opening_declared made old new block.mode block opened k bs s;
  session = ap (λ (x : OpenedSays). x.r.who) k.opened_is ∙ sym (opening_who made old new block.mode block opened k bs s);
}

-- So is one in hand.
module _ (p : PassView) (bs : List Block) (who : ℕ) (session : who ≡ p.who) (b : Begin) (begin_who : b.who ≡ who) (own : List Entry)
    (only : own ≡ entry_of b ∷ []) where
  busy-is_open : (done : List Block) (last : Block) (before : List Entry) → bs ≡ done ++ last ∷ [] → entries p.mine ≡ before ++ own →
      EachBegun p.shown (entries p.mine) → AllMadeBy (passed_in p.shown) done before → begin_with p.shown b.id ≡ Some b → b.mode ≡ last.mode →
      b.request ≡ declaration_of last → OpenBlock p bs b
  busy-is_open done last before blocks all each made begun mode declared = record {
    done = done;
    last = last;
    before = before;
    blocks = blocks;
    all_entries = all ∙ ap (λ (x : List Entry). before ++ x) only;
    each = each;
    made = made;
    begun = begun;
    mode = mode;
    declared = declared;
    session = begin_who ∙ session;
  }

module _ (made : Made) (old new : PassSays) (bs : List Block) (b : Begin) (o : OpenBlock old.p bs b) (ending : EndingSays) (k : Finished made old ending new)
    (same : begun_as ending.r ≡ b) where
  abbrev after : List Entry
  after = k.log ++ end_entry ending ∷ []

  abbrev e : EndEntry
  e = ends_with ending

  ending_shown : new.p.shown ≡ after
  ending_shown = ap (λ (x : PassSays). x.p.shown) k.adds.pass

  pub ending_who : new.p.who ≡ old.p.who
  ending_who = ap (λ (x : PassSays). x.p.who) k.adds.pass

  ending_session : ending.r.who ≡ old.p.who
  ending_session = ap (λ (x : Begin). x.who) same ∙ o.session

  pub goes_on : IsPrefix old.p.shown new.p.shown
  goes_on = subst (IsPrefix old.p.shown) (sym ending_shown) (goes_on-with old.p.shown k.log (end_entry ending) k.adds.goes_on)

  ending_begun : begin_with new.p.shown b.id ≡ Some b
  ending_begun =
      subst (λ (h : List Entry). begin_with h b.id ≡ Some b) (sym ending_shown)
      (begin_with-append k.log (end_entry ending ∷ []) b.id b (subst (λ (x : Begin). begin_with k.log x.id ≡ Some x) same k.begun))

  ending_entries : entries new.p.mine ≡ o.before ++ (entry_of b ∷ end_of old.p.who e ∷ [])
  ending_entries =
      ap (λ (x : PassSays). entries x.p.mine) k.adds.pass
      ∙ (entries-wrote old.p (length k.log) (end_entry ending)
      ∙ (ap (λ (w : ℕ). entries old.p.mine ++ end_of w e ∷ []) ending_session
      ∙ (ap (λ (es : List Entry). es ++ end_of old.p.who e ∷ []) o.all_entries
      ∙ append_assoc o.before (entry_of b ∷ []) (end_of old.p.who e ∷ []))))

  front_each : EachBegun new.p.shown o.before
  front_each =
      each_begun-to old.p.shown new.p.shown o.before goes_on
      (each_begun-front old.p.shown o.before (entry_of b ∷ []) (subst (EachBegun old.p.shown) o.all_entries o.each))

  pub ending_each : EachBegun new.p.shown (entries new.p.mine)
  ending_each =
      subst (EachBegun new.p.shown) (sym ending_entries)
      (each_begun-more new.p.shown o.before (entry_of b ∷ end_of old.p.who e ∷ []) front_each ((b, ending_begun), tt))

  ending_made : AllMadeBy (passed_in new.p.shown) o.done o.before
  ending_made =
      made-to old.p.shown new.p.shown o.done o.before goes_on
      (each_begun-front old.p.shown o.before (entry_of b ∷ []) (subst (EachBegun old.p.shown) o.all_entries o.each)) o.made

  -- in front of its release
  pub ends-over : OverBy o.last.mode o.last ending.grant ending.fault ending.r.cause → Standing made.core new.p bs Over
  ends-over ends = record {
    each = ending_each;
    stands = record {
      done = o.done;
      last = o.last;
      before = o.before;
      own = entry_of b ∷ end_of new.p.who e ∷ [];
      blocks = o.blocks;
      all_entries = ending_entries ∙ ap (λ (w : ℕ). o.before ++ (entry_of b ∷ end_of w e ∷ [])) (sym ending_who);
      made = ending_made;
      unreleased = (
        b,
        e,
        record { begun_so = ending_begun; mode = o.mode; declared = o.declared; same_request = ap (λ (x : Begin). x.id) same; ended = ends },
        refl,
      );
    };
    given = k.idle;
  }

  -- at its release
  pub ends-idle : MadeBy o.last (passed_in new.p.shown b.id o.last) b e → Standing made.core new.p bs Idle
  ends-idle made_by = record {
    each = ending_each;
    stands =
        subst (λ (es : List Entry). AllMadeBy (passed_in new.p.shown) bs es) (sym ending_entries)
        (subst (λ (ds : List Block). AllMadeBy (passed_in new.p.shown) ds (o.before ++ (entry_of b ∷ end_of old.p.who e ∷ []))) (sym o.blocks)
        (made_more (passed_in new.p.shown) o.done o.before o.last b e old.p.who ending_made made_by));
    given = k.idle;
  }
