use Rattle.std.proofs.Common.{◌≡◌, true, false, sym, ◌∙◌, refl}
use Rattle.script.specs.Commands.{is_busy, is_used}
use Rattle.script.proofs.Drafts.{busy_is, used_some}
use Rattle.script.proofs.draft.Draft.opening_cause.Goals as goal

pub returns-then-self-session : goal.returns-then-self-session
returns-then-self-session c =
    let busy : is_busy c.args.self.now.commands.items c.args.session ≡ true = busy_is c.args.self.now c.args.session c.requires.kept
    ∙ c.if-self-session.true in
    rw (busy, c.number.ensures) refl

pub returns-then-is_some : goal.returns-then-is_some
returns-then-is_some c =
    let busy : is_busy c.args.self.now.commands.items c.args.session ≡ false = busy_is c.args.self.now c.args.session c.requires.kept
    ∙ c.if-self-session.false in
    let used : is_used c.args.self.now.commands.items c.args.name.now ≡ true = used_some c.args.self.now c.args.name.now c.known.result c.requires.kept
    c.known.ensures ∙ sym c.is_some.ensures ∙ c.if-is_some.true in
    rw (busy, used, c.number-then-is_some.ensures) refl

pub returns-else-is_some : goal.returns-else-is_some
returns-else-is_some c =
    let busy : is_busy c.args.self.now.commands.items c.args.session ≡ false = busy_is c.args.self.now c.args.session c.requires.kept
    ∙ c.if-self-session.false in
    let used : is_used c.args.self.now.commands.items c.args.name.now ≡ false = used_some c.args.self.now c.args.name.now c.known.result c.requires.kept
    c.known.ensures ∙ sym c.is_some.ensures ∙ c.if-is_some.false in
    rw (busy, used) refl
