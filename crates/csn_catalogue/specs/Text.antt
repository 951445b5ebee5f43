-- The text of the catalogue.
use Rattle.std.specs.Prelude.{ℕ, List}
use Rattle.csn_catalogue.specs.declared.catalogue.TheConstants.{TEXT}

-- the text of all descriptions, as it is read
unfoldable pub catalogue_text : List ℕ
catalogue_text = TEXT.now
