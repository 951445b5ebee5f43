-- What it means that something stands in front of a text.
use Rattle.std.specs.Prelude.{◌≡◌, ◌≢◌, ◌+◌, ◌<◌, ◌≤◌, ◌^◌, ◌++◌, ◌∷◌, [], ℕ, Bool, List, length, map, codes}
use Rattle.std.specs.List.{AllByRecursion}
use Rattle.csn_cert.specs.declared.fault.CertFault.{CertFault}
use Rattle.csn_cert.specs.declared.fault.CertFault.TheVariants.{Text, NoMemory}
use Rattle.csn_cert.specs.declared.pattern.Mark.{Mark}
use Rattle.csn_cert.specs.declared.pattern.TheConstants.{MOST_MARKS}
use Rattle.csn_cert.specs.PatternV.{PatternV}
use Rattle.csn_cert.specs.PatternText.{ComesBefore, mark_character, end_character, patterns_text}
use Rattle.csn_cert.specs.CertificateV.{NodeV, PositionV, IsPattern, IsPosition, Rises}
use Rattle.csn_cert.specs.CertificateText.{CertificateText, digits_text}

-- a refusal says that there is nothing of the kind that was looked for; want of memory says nothing
abbrev pub Refuses : CertFault → Type 0 → Type 0
Refuses Text nothing = nothing
Refuses NoMemory nothing = Unit {0}

-- the text is that of no certificate
abbrev pub IsNoText : List ℕ → Type 0
IsNoText text = (c : List NodeV) → CertificateText c text → ⊥

-- ---- something in front

-- something of this kind stands in front of a text, and this may stand behind it
pub record Stands {A : Type 0} (Is : A → Type 0) (May : List ℕ → Type 0) (text_of : A → List ℕ) (text : List ℕ) (x : A) (behind : List ℕ) : Type 0 where
  pub is : Is x
  pub may : May behind
  pub spelled : text ≡ text_of x ++ behind

-- nothing of this kind does
abbrev pub Lacks : {A : Type 0} → (A → Type 0) → (List ℕ → Type 0) → (A → List ℕ) → List ℕ → Type 0
Lacks {A} Is May text_of text = (x : A) (behind : List ℕ) → Stands Is May text_of text x behind → ⊥

-- anything may stand behind
abbrev pub Anything : List ℕ → Type 0
Anything behind = Unit {0}

-- no mark stands in front
abbrev pub BeginsNoMark : List ℕ → Type 0
BeginsNoMark text = (mark : Mark) (behind : List ℕ) → text ≡ mark_character mark ∷ behind → ⊥

-- no line of a position stands in front
abbrev pub BeginsNoPosition : List ℕ → Type 0
BeginsNoPosition text = (behind : List ℕ) → text ≡ 97 ∷ behind → ⊥

-- no line feed stands in it
abbrev pub HasNoFeed : List ℕ → Type 0
HasNoFeed text = AllByRecursion (λ byte. byte ≢ 10) text

-- ---- the kinds

-- a space and so many binary digits
abbrev pub number_text : ℕ → ℕ → List ℕ
number_text count number = codes " " ++ digits_text count number

abbrev pub IsNumber : ℕ → ℕ → Type 0
IsNumber count number = number < 2 ^ count

-- the word before an octet position, and this
abbrev pub octet_text : ℕ → List ℕ
octet_text octet = codes "at " ++ (48 + octet) ∷ []

abbrev pub IsOctet : ℕ → Type 0
IsOctet octet = octet ≤ 7

-- marks, at least one of them
pub record IsWord (marks : List Mark) : Type 0 where
  pub some : 0 < length marks
  pub few : length marks ≤ MOST_MARKS

abbrev pub word_text : List Mark → List ℕ
word_text marks = map mark_character marks

-- the end of a pattern
abbrev pub IsEnd : Bool → Type 0
IsEnd whole = Unit {0}

abbrev pub end_text : Bool → List ℕ
end_text whole = end_character whole ∷ []

-- patterns in their order
pub record ArePatterns (patterns : List PatternV) : Type 0 where
  pub each : AllByRecursion IsPattern patterns
  pub rising : Rises ComesBefore patterns

-- the patterns at the end of a line
abbrev pub patterns_line : List PatternV → List ℕ
patterns_line patterns = patterns_text patterns ++ 10 ∷ []

-- positions in their order
pub record ArePositions (positions : List PositionV) : Type 0 where
  pub each : AllByRecursion IsPosition positions
  pub rising : Rises (λ p q. p.octet < q.octet) positions
