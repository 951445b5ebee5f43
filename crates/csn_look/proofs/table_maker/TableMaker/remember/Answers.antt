use Rattle.std.proofs.Common.{◌≡◌, ℕ, [], ◌∷◌, ◌++◌, List, sym, subst}
use Rattle.csn_look.specs.declared.table_maker.Product.{Product}
use Rattle.csn_look.specs.MadeProducts.{IsProduct, AreProducts}
use Rattle.csn_look.proofs.Tables.ProductsMade.{product_kept}
use Rattle.csn_look.proofs.table_maker.TableMaker.remember.Goals as goal

-- the list with one product more
kept : (tables now : List (List ℕ)) (products new : List Product) (p : Product)
    → tables ≡ now → new ≡ products ++ p ∷ [] → AreProducts tables products → IsProduct now p.first p.rests p.at
    → AreProducts tables new
kept tables now products new p same e are is =
    let P : List Product → Type 0 = λ ps. AreProducts tables ps in
    let Q : List (List ℕ) → Type 0 = λ ts. IsProduct ts p.first p.rests p.at in
    subst P (sym e) (product_kept tables products p are (subst Q (sym same) is))

pub invariant_of-self-in_err-insert : goal.invariant_of-self-in_err-insert
invariant_of-self-in_err-insert c = record {
  right_products = kept c.self.inside.tables c.args.self.now c.self.inside.products.items c.push.new.self.items
      c.args.product c.self.view_is c.in_ok-push.ensures.items c.self.invariant.right_products c.requires;
  right_leaves = c.self.invariant.right_leaves;
}

pub invariant_of-self-2 : goal.invariant_of-self-2
invariant_of-self-2 c = record {
  right_products = kept c.self.inside.tables c.args.self.now c.self.inside.products.items c.push.new.self.items
      c.args.product c.self.view_is c.in_ok-push.ensures.items c.self.invariant.right_products c.requires;
  right_leaves = c.self.invariant.right_leaves;
}
