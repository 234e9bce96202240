use Rattle.std.proofs.Common.{◌≡◌, ◌≤◌, ℕ, false, set, refl, sym, ◌∙◌, arith}
use Rattle.script.specs.Names.{with_release}
use Rattle.script.proofs.Maps.{changed_by, kept_session, no_kept_session, session_kept}
use Rattle.script.proofs.draft.Draft.release.Goals as goal

pub returns-in-Some-clause-opened : goal.returns-in-Some-clause-opened
returns-in-Some-clause-opened c =
    changed_by c.args.self.now.opened c.mark_released.new.opened c.packed.result c.args.name.now with_release c.packed.ensures.number c.packed.ensures.spelled
    c.mark_released.ensures.opened

pub returns-in_default-clause-opened : goal.returns-in_default-clause-opened
returns-in_default-clause-opened c =
    changed_by c.args.self.now.opened c.mark_released.new.opened c.packed.result c.args.name.now with_release c.packed.ensures.number c.packed.ensures.spelled
    c.mark_released.ensures.opened

pub bounds-self-session : goal.bounds-self-session
bounds-self-session c =
    let low = session_kept c.args.self.now.opened c.packed.result c.args.name.now c.in-Some.session
    (λ (s : ℕ). s ≤ 64) c.packed.ensures.number c.packed.ensures.spelled
    (sym c.in-Some.is ∙ c.mark_released.ensures.session) c.requires in
    omega arith

pub returns-in-Some-clause-busy : goal.returns-in-Some-clause-busy
returns-in-Some-clause-busy c =
    kept_session c.args.self.now.opened c.packed.result c.args.name.now c.in-Some.session
    (λ (s : ℕ). set c.args.self.now.busy c.in-Some.session false ≡ set c.args.self.now.busy s false)
    c.packed.ensures.number c.packed.ensures.spelled (sym c.in-Some.is ∙ c.mark_released.ensures.session) refl

pub returns-in_default-clause-busy : goal.returns-in_default-clause-busy
returns-in_default-clause-busy c =
    no_kept_session c.args.self.now.opened c.packed.result c.args.name.now (λ o. c.args.self.now.busy ≡ set c.args.self.now.busy o.session false)
    c.packed.ensures.number c.packed.ensures.spelled (sym c.in_default.is ∙ c.mark_released.ensures.session)
