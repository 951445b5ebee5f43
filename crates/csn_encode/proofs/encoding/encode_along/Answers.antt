use Rattle.std.proofs.Common.{[], List, ℕ, sym, subst}
use Rattle.csn_encode.specs.Encoding.{IsBlockOf}
use Rattle.csn_encode.proofs.Blocks.{root_stands, root_adds}
use Rattle.csn_encode.proofs.Texts.{on_some, whole_text}
use Rattle.csn_encode.proofs.encoding.encode_along.Goals as goal

pub write_text-requires : goal.write_text-requires
write_text-requires g c = (
  [],
  root_stands c.args.plan.now c.new-draft.result c.len-count.ensures.description c.len-count.ensures.certified
      c.new-draft.ensures.bits c.new-draft.ensures.path c.new-draft.ensures.numbers,
)

pub returns : goal.returns
returns g c =
    let h = c.in_ok-rest.ensures in
    let block = root_adds c.args.plan.now h.0 c.new-draft.result c.write_text.new.self c.new-draft.ensures.bits
    (h.2 [] (root_stands c.args.plan.now c.new-draft.result c.len-count.ensures.description
    c.len-count.ensures.certified c.new-draft.ensures.bits c.new-draft.ensures.path c.new-draft.ensures.numbers))
    in
    on_some c.taken.result (λ bits is. (
      h.0,
      whole_text _ _ c.in_ok-rest.rest.now h.1 c.if-rest-ne0.false,
      (let P : List ℕ → Type 0 = λ l. IsBlockOf c.args.plan.now h.0 l in subst P (sym is) block),
    )) c.taken.ensures
