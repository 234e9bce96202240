use Rattle.std.proofs.Common.{[], ◌∷◌, List, map, refl, ap, ◌∙◌, subst, arith}
use Rattle.std.proofs.lemmas.List.{map-append}
use Rattle.waiter.specs.Says.{id_of}
use Rattle.step_run.specs.Lives.{IsLive, LiveSays, seen_live}
use Rattle.step_run.specs.Seen.{seen_run}
use Rattle.latch_model.proofs.Elements.{Each}
use Rattle.step_run.proofs.Closing.{passes_closed}
use Rattle.step_run.proofs.Lives.{none_of_length}
use Rattle.step_run.proofs.Sounding.{live_last, sound_pop}
use Rattle.step_run.proofs.run.close.Goals as goal

pub end_value-requires-clause-sound : goal.end_value-requires-clause-sound
end_value-requires-clause-sound c =
    sound_pop (seen_run c.loop-live.run) (seen_live c.in-Some.live) (map seen_live c.pop_back.new.self.items)
    (ap (λ xs. map seen_live xs) c.in-Some.ensures.items ∙ map-append seen_live c.pop_back.new.self.items (c.in-Some.live ∷ [])) c.loop-live.invariant.sound

pub end_value-requires-clause-value : goal.end_value-requires-clause-value
end_value-requires-clause-value c =
    let core = id_of c.loop-live.run.core in
    let l = live_last core (seen_live c.in-Some.live) (map seen_live c.pop_back.new.self.items)
    (subst (λ (ls : List LiveSays). Each (IsLive core) ls)
    (ap (λ xs. map seen_live xs) c.in-Some.ensures.items ∙ map-append seen_live c.pop_back.new.self.items (c.in-Some.live ∷ []))
    c.loop-live.invariant.sound.lives) in
    (c.in-Some.live.session, l.low, l.high, l.of)

pub close-requires-clause-passes : goal.close-requires-clause-passes
close-requires-clause-passes c =
    passes_closed (seen_run c.loop-live.run) c.loop-live.run.desk c.loop-live.invariant.sound
    (none_of_length c.loop-live.run.lives.items (omega (arith, c.loop-live.run.lives.ok.0, c.in_default.ensures.cases.0))) refl refl
