-- What is known of a node of the code.
use Rattle.monotone_rewrite.specs.Folding.{KnownTruth, Yes, No, Open}
use Rattle.monotone_rewrite.specs.declared.shared.FoldedNode.{FoldedNode}
use Rattle.monotone_rewrite.specs.declared.shared.FoldedNode.TheVariants as K

abbrev pub kind_is : FoldedNode → KnownTruth
kind_is K.Yes = Yes
kind_is K.No = No
kind_is K.Open = Open
