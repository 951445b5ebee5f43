use Rattle.std.proofs.Common.{◌∙◌}
use Rattle.csn_encode.proofs.draft.Draft.count_of.Goals as goal

pub count_of-requires : goal.count_of-requires
count_of-requires c = (c.requires.0, c.requires.1, record { kept = c.as_slice.ensures.value ∙ c.requires.2.kept; has = c.requires.2.has })

pub returns-clause-count : goal.returns-clause-count
returns-clause-count c = λ d v keeps.
    c.count_of.ensures.count d v v (record { kept = c.as_slice.ensures.value ∙ keeps.kept; has = keeps.has }) (c.as_slice.ensures.value ∙ keeps.kept)
