-- Whole texts of certificates.
use Rattle.std.proofs.Common.{◌≡◌, ◌≢◌, ℕ, ◌+◌, ◌%◌, ◌<◌, ◌^◌, List, [], ◌∷◌, ◌++◌, length, codes, refl, sym, ap, ◌∙◌, arith, append_assoc}
use Rattle.std.specs.Fmt.{decimal}
use Rattle.std.proofs.lemmas.Fmt.{decimal_by_steps}
use Rattle.std.proofs.lemmas.List.{append_cancel_left}
use Rattle.csn_cert.specs.CertificateV.{NodeV, IsCertificate}
use Rattle.csn_cert.specs.CertificateText.{CertificateText, nodes_text}
use Rattle.csn_cert.specs.Reading.{HasNoFeed}
use Rattle.csn_cert.proofs.Fronts.{heads, tails}
use Rattle.csn_cert.proofs.Growth.{All-push}
use Rattle.csn_cert.proofs.Nodes.{nodes_tell}

decimal_has_no_feed : (n : ℕ) → n < 2 ^ 64 → HasNoFeed (decimal n)
decimal_has_no_feed n small = decimal_by_steps (λ _ ds. HasNoFeed ds) (λ m low. (λ e. omega (arith, e), tt))
    (λ m ds low each. All-push (λ byte. byte ≢ 10) ds (48 + m % 10) each (λ e. omega (arith, e))) n small

-- texts that agree have the same first line
line_same : (xs ys a b : List ℕ) → HasNoFeed xs → HasNoFeed ys → xs ++ 10 ∷ a ≡ ys ++ 10 ∷ b → (xs ≡ ys) × (a ≡ b)
line_same [] [] a b never never' same = (refl, tails 10 10 a b same)
line_same [] (y ∷ ys) a b never never' same = absurd (never'.0 (sym (heads 10 y a (ys ++ 10 ∷ b) same)))
line_same (x ∷ xs) [] a b never never' same = absurd (never.0 (heads x 10 (xs ++ 10 ∷ a) b same))
line_same (x ∷ xs) (y ∷ ys) a b never never' same =
    let later = line_same xs ys a b never.1 never'.1 (tails x y (xs ++ 10 ∷ a) (ys ++ 10 ∷ b) same) in
    (ap (λ z. z ∷ xs) (heads x y (xs ++ 10 ∷ a) (ys ++ 10 ∷ b) same) ∙ ap (λ l. y ∷ l) later.0, later.1)

parts : (count nodes : List ℕ) → codes "csn-cert " ++ count ++ 10 ∷ [] ++ nodes ≡ codes "csn-cert " ++ (count ++ 10 ∷ nodes)
parts count nodes = simp append_assoc

-- what stands in the first line of the text of a certificate, and behind it
pub told : (text one two line : List ℕ) (c : List NodeV) → text ≡ codes "csn-cert " ++ one → one ≡ line ++ 10 ∷ two
    → HasNoFeed line → CertificateText c text → (line ≡ decimal (length c)) × (two ≡ nodes_text 0 c)
told text one two line c word cut never is =
    let small : length c < 2 ^ 64 = (let p : 2 ^ 64 ≡ 18446744073709551616 = refl in omega (arith, is.certificate.few)) in
    let rest : one ≡ decimal (length c) ++ 10 ∷ nodes_text 0 c =
    append_cancel_left (codes "csn-cert ") one (decimal (length c) ++ 10 ∷ nodes_text 0 c)
    (sym word ∙ is.spelled ∙ parts (decimal (length c)) (nodes_text 0 c)) in
    line_same line (decimal (length c)) two (nodes_text 0 c) never (decimal_has_no_feed (length c) small) (sym cut ∙ rest)

-- nodes whose number is not told
pub untold : (text one two line number : List ℕ) (nodes c : List NodeV) → text ≡ codes "csn-cert " ++ one
    → one ≡ line ++ 10 ∷ two → HasNoFeed line → IsCertificate nodes → two ≡ nodes_text 0 nodes
    → number ≡ decimal (length nodes) → (line ≡ number → ⊥) → CertificateText c text → ⊥
untold text one two line number nodes c word cut never are read named not is =
    let found = told text one two line c word cut never is in
    let same : nodes ≡ c = nodes_tell nodes c are.nodes is.certificate.nodes (sym read ∙ found.1) in
    not (found.0 ∙ ap (λ ns. decimal (length ns)) (sym same) ∙ sym named)

-- the text of nodes whose number is told
pub text_told : (text one two line number : List ℕ) (nodes : List NodeV) → text ≡ codes "csn-cert " ++ one
    → one ≡ line ++ 10 ∷ two → IsCertificate nodes → two ≡ nodes_text 0 nodes → number ≡ decimal (length nodes)
    → line ≡ number → CertificateText nodes text
text_told text one two line number nodes word cut are read named same =
    record {
      certificate = are;
      spelled =
          word ∙ ap (λ l. codes "csn-cert " ++ l) (cut ∙ ap (λ l. l ++ 10 ∷ two) (same ∙ named)
          ∙ ap (λ l. decimal (length nodes) ++ 10 ∷ l) read)
          ∙ sym (parts (decimal (length nodes)) (nodes_text 0 nodes));
    }

-- a text is that of one certificate
pub texts_differ : (c d : List NodeV) (text : List ℕ) → CertificateText c text → CertificateText d text → c ≡ d
texts_differ c d text is is' =
    let small : length c < 2 ^ 64 = (let p : 2 ^ 64 ≡ 18446744073709551616 = refl in omega (arith, is.certificate.few)) in
    let found = told text (decimal (length c) ++ 10 ∷ nodes_text 0 c) (nodes_text 0 c) (decimal (length c)) d
    (is.spelled ∙ parts (decimal (length c)) (nodes_text 0 c)) refl (decimal_has_no_feed (length c) small) is' in
    nodes_tell c d is.certificate.nodes is'.certificate.nodes found.1
