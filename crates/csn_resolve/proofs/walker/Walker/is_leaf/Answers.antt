use Rattle.std.proofs.lemmas.Result.{err_from_is_err_and}
use Rattle.csn_resolve.specs.Views.{seen_view}
use Rattle.csn_resolve.proofs.Walking.Inversion.{number-leaf}
use Rattle.csn_resolve.proofs.walker.Walker.is_leaf.Goals as goal

pub returns-in_err-check_count : goal.returns-in_err-check_count
returns-in_err-check_count c =
    number-leaf c.args.self.now.names.now c.args.self.now.reading (seen_view c.args.self.now.reading c.args.seen.now)
    c.args.place c.args.part.now c.args.count.now c.from_residual.result c.in_default.not-Any
    (λ steps h. let p = err_from_is_err_and c.from_residual.result c.from_residual.ensures.1 in rw (p.1, p.2) (c.in_err-check_count.ensures steps h))
