-- What is written for a tree is joined of what is written for the trees in it.
use Rattle.std.proofs.Common.{◌≡◌, ℕ, Bool, false, true, List, [], ◌∷◌, ◌++◌, codes, refl, sym, ap, ◌∙◌, append_assoc}
use Rattle.std.specs.Fmt.{decimal}
use Rattle.json.specs.Print.{escape_byte}
use Rattle.csn_bits.specs.Line.{written}
use Rattle.csn_desc.specs.TreeV.{TreeV, alt, named, Trees, none, more}
use Rattle.csn_desc.specs.Label.{IsLabel}
use Rattle.serde_json.specs.Written.{items_text, comma_if}
use Rattle.csn_json.specs.JsonTree.{items_of}
use Rattle.csn_json.specs.JsonText.{json_text, row_text}
use Rattle.csn_json.specs.Laws.{TextsAreJoined}
use Rattle.csn_json.proofs.Plain.{plain_quoted, written_plain, label_plain}

-- the text of a row, with its closing bracket
row_joined : (later : Bool) (ts : Trees) → items_text later (items_of ts) ≡ row_text later ts ++ 93 ∷ []
row_joined later none = refl
row_joined later (more t ts) =
    ap (λ l. comma_if later ++ (json_text t ++ l)) (row_joined true ts)
    ∙ ap (λ l. comma_if later ++ l) (sym (append_assoc (json_text t) (row_text true ts) (93 ∷ [])))
    ∙ sym (append_assoc (comma_if later) (json_text t ++ row_text true ts) (93 ∷ []))

alternative_joined :
    (j : ℕ) (t : TreeV)
    → json_text (alt j t) ≡ codes "{\"alt\":" ++ (decimal j ++ (codes ",\"tree\":" ++ (json_text t ++ codes "}")))
unfolding escape_byte
alternative_joined j t = refl

labelled_joined :
    (l : List ℕ) (t : TreeV) → IsLabel l
    → json_text (named l t) ≡ codes "{\"label\":\"" ++ (l ++ (codes "\",\"tree\":" ++ (json_text t ++ codes "}")))
unfolding escape_byte
labelled_joined l t is =
    let behind : List ℕ = codes ",\"tree\":" ++ (json_text t ++ codes "}") in
    ap (λ s. codes "{\"label\":" ++ (s ++ behind)) (plain_quoted l (label_plain l is))
    ∙ ap (λ s. codes "{\"label\":\"" ++ s) (append_assoc l (34 ∷ []) behind)

pub texts_joined : TextsAreJoined
texts_joined =
    record {
      leaf = λ b are. plain_quoted (written b) (written_plain b are);
      rows = λ ts. ap (λ l. 91 ∷ l) (row_joined false ts);
      alternative = alternative_joined;
      labelled = labelled_joined;
    }
