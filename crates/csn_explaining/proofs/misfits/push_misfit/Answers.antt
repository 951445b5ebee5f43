use Rattle.csn_explaining.proofs.Texts.{misfit_joined}
use Rattle.csn_explaining.proofs.misfits.push_misfit.Goals as goal

pub returns : goal.returns
returns c = (
  _,
  _,
  misfit_joined _ _ _ _ _ _ _ _ _ c.in_ok-extend_from_slice.ensures.items c.in_ok-push_name.ensures
      c.in_ok-extend_from_slice-2.ensures.items c.in_ok-push_why.ensures,
)
