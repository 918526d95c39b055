-- The words of a connection list's fault. This project's own.
use Rattle.std.specs.Prelude.{ℕ, List, codes}
use Rattle.verb_codes.specs.declared.entries.ListFault.{ListFault}
use Rattle.verb_codes.specs.declared.entries.ListFault.TheVariants.{Zero, Beyond, FirstIsRange, RangeAfterRange}
use Rattle.verb_codes.specs.declared.entries.ListFault.TheVariants.{RangeBackward}

abbrev pub list_fault_text : ListFault → List ℕ
list_fault_text Zero = codes "Zero"
list_fault_text Beyond = codes "Beyond"
list_fault_text FirstIsRange = codes "FirstIsRange"
list_fault_text RangeAfterRange = codes "RangeAfterRange"
list_fault_text RangeBackward = codes "RangeBackward"
