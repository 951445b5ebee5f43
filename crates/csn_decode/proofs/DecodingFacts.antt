-- A decoder between two pieces of a block, and at its end.
use Rattle.std.proofs.Common.{◌≡◌, ℕ, Bool, List, [], ◌++◌, refl, sym, ap, subst, ◌∙◌, Option, Some, None}
use Rattle.std.specs.Prelude.{Result, Ok, Err, IfOk, IfErr}
use Rattle.csn_desc.specs.declared.moves.Move.{Move}
use Rattle.csn_desc.specs.Nodes.{DescV}
use Rattle.csn_desc.specs.TreeV.{TreeV}
use Rattle.csn_desc.specs.Means.{NMeans}
use Rattle.csn_desc.specs.Formed.{IsDescription}
use Rattle.csn_certify.specs.Plans.{HasOneTree}
use Rattle.csn_judge.specs.Told.{Tells, tells_none}
use Rattle.csn_judge.specs.Judging.{JudgeV, JudgesFor, opened, Judges}
use Rattle.csn_judge.specs.Judging.{Ends as JudgeEnds}
use Rattle.csn_judge.specs.declared.verdict.Verdict.{Verdict}
use Rattle.csn_judge.specs.declared.verdict.Judged.TheVariants as judged
use Rattle.csn_judge.specs.declared.fed.Fed.TheVariants.{Going}
use Rattle.csn_judge.specs.Following.{answer_of, comes_on, comes_no_more}
use Rattle.csn_judge.proofs.FollowingFacts as following
use Rattle.csn_decode.specs.declared.verdict.DecodeFault.{DecodeFault}
use Rattle.csn_decode.specs.declared.verdict.DecodeFault.TheVariants as fault
use Rattle.csn_decode.specs.Built.{BuiltV, nothing, given, Makes, whole_of}
use Rattle.csn_decode.specs.Decoding.{stands, IsTold, DecodesFor, Decodes, Ends}
use Rattle.csn_decode.proofs.Grown.{IsAt, tree_grows, tells-then}

-- no bits so far
pub decodes_none : (j : JudgeV) → JudgesFor j [] [] → opened j ≡ [] → DecodesFor (stands j (Some nothing) Going) []
decodes_none j for none = comes_on [] refl for (tells_none none refl)

-- ---- behind some more bits

pub feeds : (old new : JudgeV) (before after : Option BuiltV) (more : List ℕ) (says : Verdict) (short : Bool) → new.desc ≡ old.desc → old.refused ≡ None
    → Judges (λ around made. Tells old.desc Makes (opened old) made around before after) old new more says
    → Decodes (stands old before Going) (stands new after (answer_of says short)) more (answer_of says short)
feeds old new before after more says short same =
    let T : List Move → DescV → Type 0 = λ moves d. Tells d Makes [] moves (opened new) (Some nothing) after in
    following.feeds old new more (λ around made. Tells old.desc Makes (opened old) made around before after)
    (IsTold (stands old before Going)) (IsTold (stands new after Going))
    (λ moves made told on. subst (T (moves ++ made)) (sym same) (tells-then old.desc told on)) says short same

-- ---- at the end of a block

pub ends_wanting : (j : JudgeV) (before after : Option BuiltV) → JudgeEnds (λ around made. Tells j.desc Makes (opened j) made around before after) j judged.Ok
    → Ends (stands j before Going) (Err fault.NoMemory)
ends_wanting j before after judges b (comes_no_more other refusal at small) = absurd (cc)
ends_wanting j before after judges b (comes_on moves going for told) = let is = judges b moves for in (is.block.tree, is.block.means)

-- the tree of the root, where no memory was refused
root_is : (state : Option BuiltV) (tree root : TreeV) → IsAt (given 0 root nothing) state → whole_of state ≡ Some tree → root ≡ tree
root_is None tree root at e = absurd (cc)
root_is (Some v) tree root at e =
    let same : v ≡ given 0 root nothing = at v refl in
    let whole : Some root ≡ Some tree = sym (ap (λ (x : BuiltV). x.whole) same) ∙ e in
    cc

pub ends_tree : (j : JudgeV) (before after : Option BuiltV) (tree : TreeV) → IsDescription j.desc → HasOneTree j.desc
    → JudgeEnds (λ around made. Tells j.desc Makes (opened j) made around before after) j judged.Ok → whole_of after ≡ Some tree
    → Ends (stands j before Going) (Ok tree)
ends_tree j before after tree is one judges root b (comes_no_more other refusal at small) = absurd (cc)
ends_tree j before after tree is one judges root b (comes_on moves going for told) =
    let string = judges b moves for in
    let at = tree_grows j.desc is string.block.walks (tells-then j.desc told string.told) in
    let same : string.block.tree ≡ tree = root_is after tree string.block.tree at root in
    let P : TreeV → Type 0 = λ t. NMeans j.desc 0 0 [] b t in
    let means = subst P same string.block.means in
    record { means = means; only = λ other there. one b other tree there means }

-- the tree that a track has made, if there was memory for it
pub ends_made : (j : JudgeV) (before after : Option BuiltV) (result : Result TreeV DecodeFault) → IsDescription j.desc → HasOneTree j.desc
    → JudgeEnds (λ around made. Tells j.desc Makes (opened j) made around before after) j judged.Ok
    → IfOk result (λ tree. whole_of after ≡ Some tree) → IfErr result (λ why. why ≡ fault.NoMemory)
    → Ends (stands j before Going) result
ends_made j before after (Ok tree) is one judges made wanting = ends_tree j before after tree is one judges made
ends_made j before after (Err why) is one judges made wanting =
    subst (λ (f : DecodeFault). Ends (stands j before Going) (Err f)) (sym wanting)
    (ends_wanting j before after judges)
