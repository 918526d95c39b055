use Rattle.std.proofs.Common.{◌≡◌, ◌≤◌, All}
use Rattle.std.specs.Prelude.{take}
use Rattle.driver_bring_up.specs.Addresses as spec
use Rattle.driver_bring_up.proofs.addresses.addresses_in.Given as goal

abbrev pub invariant-loop-address : goal.invariant-loop-address
invariant-loop-address l = (l.addresses.items ≡ take spec.most_codecs (spec.addresses_below l.fn.bits l.address)) × All (λ address. address ≤ 14) l.addresses.items
