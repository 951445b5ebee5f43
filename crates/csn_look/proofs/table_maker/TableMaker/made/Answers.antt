use Rattle.std.proofs.Common.{◌≡◌, ◌<◌, ℕ, length, List, Some, refl, subst, arith}
use Rattle.std.specs.Prelude.{slice_get}
use Rattle.std.proofs.lemmas.Bool.Decides.{Decides-eqb}
use Rattle.std.proofs.lemmas.Option.{slice_get_read}
use Rattle.std.proofs.lemmas.Slice.Eq.{slice_eq-Decides}
use Rattle.csn_look.specs.MadeProducts.{IsProduct}
use Rattle.csn_look.proofs.table_maker.TableMaker.made.Goals as goal

pub returns-then-eq : goal.returns-then-eq
returns-then-eq c =
    let products = c.self.inside.products.items in
    let product = c.index.result.now in
    let at = c.in-Some.at.now in
    let inside : at < length products = omega (arith, c.if-at-len.false, c.len.ensures) in
    let there : slice_get products at ≡ Some product = slice_get_read products (length products) at product refl inside c.index.ensures in
    let rests : product.rests ≡ c.args.rests.now = (slice_eq-Decides Decides-eqb product.rests c.args.rests.now c.eq.result c.eq.ensures).0 c.if-eq.true in
    let P : ℕ → Type 0 = λ first. IsProduct c.self.inside.tables first product.rests product.at in
    let Q : List ℕ → Type 0 = λ l. IsProduct c.self.inside.tables c.args.first l product.at in
    let R : List (List ℕ) → Type 0 = λ tables. IsProduct tables c.args.first c.args.rests.now product.at in
    subst R c.self.view_is (subst Q rests (subst P c.if-product-first.true (c.self.invariant.right_products at product there)))
