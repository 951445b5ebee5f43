-- The blocks of trees.
use Rattle.std.proofs.Common.{◌≡◌, ℕ, ◌⊎◌, inl, inr, List, [], ◌++◌, length, refl, sym, ◌∙◌, ap, subst, arith}
use Rattle.std.specs.Prelude.{◌↔◌, Option, Some, None, Result, ok_or, IfSome, IfOk, IfErr}
use Rattle.csn_desc.specs.TreeV.{TreeV}
use Rattle.csn_desc.specs.TreeParts.{HasTreeParts}
use Rattle.csn_desc.specs.Nodes.{DescV}
use Rattle.csn_desc.specs.Means.{NMeans}
use Rattle.csn_desc.specs.Values.{Values}
use Rattle.csn_desc.specs.Formed.{IsDescription}
use Rattle.csn_desc.proofs.ValuesKept.{no_values_fit}
use Rattle.csn_certify.specs.Conflicts.{Certified}
use Rattle.csn_certify.specs.Laws.{FreeTurnsHaveBits}
use Rattle.csn_encode.specs.declared.misfit.MisfitWhy.{MisfitWhy}
use Rattle.csn_encode.specs.declared.draft.Draft.{Draft}
use Rattle.csn_encode.specs.declared.fault.EncodeFault.{EncodeFault}
use Rattle.csn_encode.specs.declared.fault.EncodeFault.TheVariants as fault
use Rattle.csn_encode.specs.declared.fault.Stop.{Stop}
use Rattle.csn_encode.specs.declared.fault.Stop.TheVariants as stop
use Rattle.csn_encode.specs.Misfits.{Misses, IsMisfit}
use Rattle.csn_encode.specs.Writing.{Stands, Adds, StopsAt, IfMisfit}
use Rattle.csn_encode.specs.Encoding.{IsBlockOf, HasNoBlock, HasNoMisfit, IsFaultOf}
use Rattle.csn_encode.proofs.OneBits.{one_bits}
use Rattle.csn_encode.proofs.NoBits.{clash}
use Rattle.csn_encode.proofs.Total.{fits, fails, settled}

pub misses_block : (d : DescV) (t : TreeV) (path : List ℕ) (why : MisfitWhy) → IsMisfit d t path why → HasNoBlock d t
misses_block d t path why h b block = let within = block.within in clash d h block.means refl refl refl refl (omega (arith, within))

module _ (d : DescV) (is : IsDescription d) (certified : Certified d 12) (free : FreeTurnsHaveBits) where
  pub fits_or_misses : (t : TreeV) → HasTreeParts t → ((b : List ℕ) × IsBlockOf d t b) ⊎ ((path : List ℕ) × (why : MisfitWhy) × IsMisfit d t path why)
  fits_or_misses t leaves = elim (settled d is certified free is.well_formed [] refl (no_values_fit d) 0 (omega arith) t leaves) [
    | fits b m within ↦ inl (b, record { means = m; within = omega (arith, within) })
    | fails path why m ↦ inr (path, why, m)
  ]

  pub fitting : (t : TreeV) → HasTreeParts t → (b : List ℕ) → IsBlockOf d t b ↔ (HasNoMisfit d t × ((c : List ℕ) → IsBlockOf d t c → c ≡ b))
  fitting t leaves b = (
    λ block. (λ path why misfit. misses_block d t path why misfit b block, λ c other. one_bits d other.means block.means refl refl refl refl),
    λ both. elim (fits_or_misses t leaves) [
      | inl found ↦ let P : List ℕ → Type 0 = λ l. IsBlockOf d t l in subst P (both.1 found.0 found.1) found.1
      | inr miss ↦ absurd (both.0 miss.0 miss.1 miss.2)
    ],
  )

-- ---- what is written of the root

pub root_stands : (d : DescV) (draft : Draft) → IsDescription d → Certified d 12 → draft.bits ≡ [] → draft.path ≡ []
    → draft.numbers.items ≡ [] → Stands d 0 0 [] draft
root_stands d draft is certified bits path numbers =
    record {
      ready =
          record {
            description = is;
            certified = certified;
            widths = no_values_fit d;
            numbers = numbers;
            steps = omega (arith, ap length path);
            few = omega arith;
            within = omega (arith, ap length bits);
          };
      is_formed = is.well_formed;
    }

pub root_adds : (d : DescV) (t : TreeV) (old new : Draft) → old.bits ≡ [] → Adds d 0 [] t old new → IsBlockOf d t new.bits
root_adds d t old new none h =
    let P : ℕ → Type 0 = λ o. NMeans d 0 o [] h.added t in
    let Q : List ℕ → Type 0 = λ b. NMeans d 0 0 [] b t in
    record { means = subst Q (sym (h.bits ∙ ap (λ l. l ++ h.added) none)) (subst P (ap length none) h.meant); within = h.within }

pub root_misses : (d : DescV) (t : TreeV) (old new : Draft) (why : MisfitWhy) → old.bits ≡ [] → old.path ≡ []
    → StopsAt d 0 [] t old new why → IsMisfit d t new.path why × HasNoBlock d t
root_misses d t old new why none start h =
    let P : ℕ → Type 0 = λ o. Misses d 0 o [] t h.below why in
    let Q : List ℕ → Type 0 = λ p. Misses d 0 0 [] t p why in
    let misfit : IsMisfit d t new.path why = subst Q (sym (h.path ∙ ap (λ l. l ++ h.below) start)) (subst P (ap length none) h.misfit) in
    (misfit, misses_block d t new.path why misfit)

-- ---- what is answered

-- the bits that were taken of a draft
pub taken_block : (d : DescV) (t : TreeV) (draft : Draft) (taken : Option (List ℕ)) (r : Result (List ℕ) EncodeFault)
    → r ≡ ok_or taken fault.NoMemory → IfSome taken (λ b. b ≡ draft.bits)
    → IsBlockOf d t draft.bits → IfOk r (λ b. IsBlockOf d t b)
taken_block d t draft None r same is block = let P : Result (List ℕ) EncodeFault → Type 0 = λ x. IfOk x (λ b. IsBlockOf d t b) in subst P (sym same) tt
taken_block d t draft (Some b) r same is block =
    let P : Result (List ℕ) EncodeFault → Type 0 = λ x. IfOk x (λ l. IsBlockOf d t l) in
    let Q : List ℕ → Type 0 = λ l. IsBlockOf d t l in
    subst P (sym same) (subst Q (sym is) block)

pub untaken : (d : DescV) (t : TreeV) (taken : Option (List ℕ)) (r : Result (List ℕ) EncodeFault)
    → r ≡ ok_or taken fault.NoMemory → IfErr r (λ e. IsFaultOf d t e)
untaken d t None r same = let P : Result (List ℕ) EncodeFault → Type 0 = λ x. IfErr x (λ e. IsFaultOf d t e) in subst P (sym same) tt
untaken d t (Some b) r same = let P : Result (List ℕ) EncodeFault → Type 0 = λ x. IfErr x (λ e. IsFaultOf d t e) in subst P (sym same) tt

-- the fault of a draft that was stopped
pub stopped : (d : DescV) (t : TreeV) (old new : Draft) (why : Stop) (e : EncodeFault) → old.bits ≡ [] → old.path ≡ [] → Stands d 0 0 [] old
    → IfMisfit why (λ reason. (v : Values) → Stands d 0 0 v old → StopsAt d 0 v t old new reason)
    → ((reason : MisfitWhy) → why ≡ stop.Misfit reason → e ≡ fault.Misfit (record { path = new.path; why = reason }))
    → (why ≡ stop.NoMemory → e ≡ fault.NoMemory) → IsFaultOf d t e
stopped d t old new (stop.Misfit reason) e none start stands missed misfit memory =
    subst (IsFaultOf d t) (sym (misfit reason refl)) (root_misses d t old new reason none start (missed [] stands))
stopped d t old new stop.NoMemory e none start stands missed misfit memory = subst (IsFaultOf d t) (sym (memory refl)) tt
