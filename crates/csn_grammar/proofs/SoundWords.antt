-- What the reader makes of a word is what the word says.
use Rattle.std.proofs.Common.{◌≡◌, ℕ, Bool, true, false, ◌&&◌, List, [], ◌∷◌, length, map, Option, Some, None, refl, sym, ap, ◌∙◌, ◌⊎◌, inl, inr}
use Rattle.std.specs.Prelude.{codes, ◌==◌, nat_le, if◌then◌else◌}
use Rattle.std.specs.Char.{is_ascii_digit}
use Rattle.std.specs.List.{list_all}
use Rattle.std.specs.Option.{option_map}
use Rattle.std.proofs.lemmas.Bool.{and_parts, eqb-true, leb-true}
use Rattle.std.specs.Cmp.Lexicographic.{same_text}
use Rattle.csn_desc.specs.declared.symbol.Symbol.{Symbol}
use Rattle.csn_desc.specs.declared.symbol.Symbol.TheVariants.{Zero, One, Low, High}
use Rattle.csn_grammar.specs.declared.exponent.TheConstants.{MOST_DIGITS}
use Rattle.csn_grammar.specs.ExprV.{FormV, lits, null, bit, octet}
use Rattle.csn_grammar.specs.Writing.{letter_of, IsLits, decimal_after, IsNumber}
use Rattle.csn_grammar.specs.reader.Spellings.{is_text, number_of, symbol_of, with_symbol, run_of, word_form}

-- a choice that gave something
if_said : {X : Type 0} (b : Bool) (t x : X) (rest : Option X) → (if b then Some t else rest) ≡ Some x
    → ((b ≡ true) × (x ≡ t)) ⊎ (rest ≡ Some x)
if_said true t x rest h = inl (refl, cc)
if_said false t x rest h = inr h

pub number_said : (w : List ℕ) (n : ℕ) → number_of w ≡ Some n → IsNumber w n
number_said w n h = elim (if_said ((nat_le 1 (length w) && nat_le (length w) MOST_DIGITS) && list_all is_ascii_digit w) (decimal_after 0 w) n None h) [
  | inl said ↦
      let whole = and_parts (nat_le 1 (length w) && nat_le (length w) MOST_DIGITS) (list_all is_ascii_digit w) said.0 in
      let sizes = and_parts (nat_le 1 (length w)) (nat_le (length w) MOST_DIGITS) whole.0 in
      record {
        some = leb-true 1 (length w) sizes.0;
        few = leb-true (length w) MOST_DIGITS sizes.1;
        digits = whole.1;
        value = said.1;
      }
  | inr unsaid ↦ absurd (cc)
]

symbol_said : (c : ℕ) (s : Symbol) → symbol_of c ≡ Some s → c ≡ letter_of s
symbol_said c s h = elim (if_said (c == 48) Zero s _ h) [
  | inl said ↦ eqb-true c 48 said.0 ∙ ap letter_of (sym said.1)
  | inr h ↦ elim (if_said (c == 49) One s _ h) [
    | inl said ↦ eqb-true c 49 said.0 ∙ ap letter_of (sym said.1)
    | inr h ↦ elim (if_said (c == 76) Low s _ h) [
      | inl said ↦ eqb-true c 76 said.0 ∙ ap letter_of (sym said.1)
      | inr h ↦ elim (if_said (c == 72) High s None h) [
        | inl said ↦ eqb-true c 72 said.0 ∙ ap letter_of (sym said.1)
        | inr h ↦ absurd (cc)
      ]
    ]
  ]
]

with_said : (o : Option Symbol) (r : Option (List Symbol)) (run : List Symbol) → with_symbol o r ≡ Some run
    → (s : Symbol) × (q : List Symbol) × (o ≡ Some s) × (r ≡ Some q) × (run ≡ s ∷ q)
with_said None r run h = absurd (cc)
with_said (Some s) None run h = absurd (cc)
with_said (Some s) (Some q) run h = (s, q, refl, refl, cc)

pub run_said : (w : List ℕ) (run : List Symbol) → run_of w ≡ Some run → IsLits w run
run_said [] run h = let none : [] ≡ run = cc in ap (map letter_of) none
run_said (c ∷ w) run h =
    let said = with_said (symbol_of c) (run_of w) run h in
    let first : c ≡ letter_of said.0 = symbol_said c said.0 said.2 in
    let rest : w ≡ map letter_of said.1 = run_said w said.1 said.3 in
    ap (λ b. b ∷ w) first ∙ ap (λ r. letter_of said.0 ∷ r) rest ∙ ap (map letter_of) (sym said.4)

-- the ways in which a word is a side
pub data Said (w : List ℕ) (f : FormV) : Type 0 where
  said_null : w ≡ codes "null" → f ≡ null → Said w f
  said_bit : w ≡ codes "bit" → f ≡ bit → Said w f
  said_octet : w ≡ codes "octet" → f ≡ octet → Said w f
  said_lits : (run : List Symbol) → IsLits w run → f ≡ lits run → Said w f

lits_said : (w : List ℕ) (o : Option (List Symbol)) (f : FormV) → run_of w ≡ o → option_map lits o ≡ Some f → Said w f
lits_said w None f e h = absurd (cc)
lits_said w (Some run) f e h = said_lits run (run_said w run e) (cc)

pub form_said : (w : List ℕ) (f : FormV) → word_form w ≡ Some f → Said w f
form_said w f h = elim (if_said (is_text w (codes "null")) null f _ h) [
  | inl said ↦ said_null (same_text w (codes "null") (sym said.0)) said.1
  | inr h ↦ elim (if_said (is_text w (codes "bit")) bit f _ h) [
    | inl said ↦ said_bit (same_text w (codes "bit") (sym said.0)) said.1
    | inr h ↦ elim (if_said (is_text w (codes "octet")) octet f _ h) [
      | inl said ↦ said_octet (same_text w (codes "octet") (sym said.0)) said.1
      | inr h ↦ lits_said w (run_of w) f refl h
    ]
  ]
]
