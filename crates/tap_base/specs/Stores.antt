-- What the store of a text has.
use Rattle.std.specs.Prelude.{ℕ, List}
use Rattle.tap_base.specs.declared.text_store.TextStore.{TextStore}
use Rattle.tap_base.specs.declared.text_store.TextStore.TheVariants.{Short, Long}

-- the bytes of a text, whether they lie in its value or in an allocation
abbrev pub stored : TextStore → List ℕ
stored (Short bytes) = bytes
stored (Long bytes) = bytes.items
