use Rattle.std.proofs.Common.{◌≡◌, Bool, List, sym, ◌∙◌, ap}
use Rattle.csn_resolve.specs.Marked.{passes, marked}
use Rattle.csn_resolve.proofs.Emptiness.LeastFacts.{found_passes, passes_found}
use Rattle.csn_resolve.proofs.marks.Marks.pass.Goals as goal

pub returns : goal.returns
returns c =
    let rules = c.self.inside.names.now in
    let found : c.passes.result ≡ passes c.self.inside.test (marked c.self.inside.names.now c.self.inside.marks.items) c.args.x.now =
    c.passes.ensures ∙ ap (λ (ms : List Bool). passes c.self.inside.test (marked c.self.inside.names.now ms) c.args.x.now) c.as_slice.ensures.value in
    rw (← c.self.view_is) (
      λ p. found_passes c.self.inside.names.now c.self.inside.marks.items c.self.inside.test c.args.x.now c.self.invariant.sound (sym found ∙ p),
      λ h. found ∙ passes_found c.self.inside.names.now c.self.inside.marks.items c.self.inside.test c.args.x.now c.self.invariant.closed h,
    )
