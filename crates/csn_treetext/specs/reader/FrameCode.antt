-- How the logic stores the trees that have begun.
use Rattle.std.specs.Prelude.{◌≡◌, ℕ, List, ◌⊎◌, refl}
use Rattle.std.specs.Coded.{Coded, code_by, coded_ℕ, coded_list, coded⊎}
use Rattle.std.proofs.Common.{inl, inr}
use Rattle.csn_desc.specs.TreeV.{TreeV}
use Rattle.csn_desc.specs.TreeCode.{rows_code}
use Rattle.csn_treetext.specs.declared.stack.Frame.{Frame}
use Rattle.csn_treetext.specs.declared.stack.Frame.TheVariants.{Row, Alt, Named}

abbrev pub Content : Type 0
Content = List TreeV ⊎ (ℕ ⊎ List ℕ)

abbrev pub content_of : Frame → Content
content_of (Row ts) = inl ts
content_of (Alt j) = inr (inl j)
content_of (Named l) = inr (inr l)

abbrev pub frame_of : Content → Frame
frame_of (inl ts) = Row ts
frame_of (inr (inl j)) = Alt j
frame_of (inr (inr l)) = Named l

abbrev pub back : (frame : Frame) → frame_of (content_of frame) ≡ frame
back (Row ts) = refl
back (Alt j) = refl
back (Named l) = refl

abbrev pub frames_code : Coded (List Frame)
frames_code = coded_list (code_by Content (coded⊎ rows_code (coded⊎ coded_ℕ (coded_list coded_ℕ))) content_of frame_of back)
