use Rattle.report.proofs.Plain.{plain_latch}
use Rattle.report.proofs.objects.latch_value.Goals as goal

pub plain_value-requires : goal.plain_value-requires
plain_value-requires c =
    rw (c.in_ok-push_latch.ensures.ok, c.new-text.ensures.items) (plain_latch c.args.latch.now c.key.ensures.valid c.fits.ensures.wall c.fits.ensures.logical)
