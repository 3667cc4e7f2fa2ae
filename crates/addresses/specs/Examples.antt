-- Words that write an address, and words that write none. Assumes nothing.
use Rattle.std.specs.Prelude.{◌≡◌, Some, None, codes}
use Rattle.notes.specs.declared.family.Family.TheVariants.{Four, Six}
use Rattle.addresses.specs.Addresses.{address_of}

abbrev pub Written : Type 0
Written =
    (address_of (codes "192.0.2.1") ≡ Some (record { family = Four; bits = 0xc0000201 }))
    × (address_of (codes "::") ≡ Some (record { family = Six; bits = 0 }))
    × (address_of (codes "2001:DB8::8a2e:370:7334") ≡ Some (record { family = Six; bits = 0x20010db80000000000008a2e03707334 }))
    × (address_of (codes "::2:3:4:5:6:7:8") ≡ Some (record { family = Six; bits = 0x00000002000300040005000600070008 }))
    × (address_of (codes "1:2:3:4:5:6:7::") ≡ Some (record { family = Six; bits = 0x00010002000300040005000600070000 }))
    × (address_of (codes "1:2:3:4:5:6:7:8") ≡ Some (record { family = Six; bits = 0x00010002000300040005000600070008 }))

abbrev pub Refused : Type 0
Refused =
    (address_of (codes "192.0.2.01") ≡ None)
    × (address_of (codes "192.0.2.256") ≡ None)
    × (address_of (codes "192.0.2") ≡ None)
    × (address_of (codes "1:2:3:4::5:6:7:8") ≡ None)
    × (address_of (codes "1::2::3") ≡ None)
    × (address_of (codes ":::") ≡ None)
    × (address_of (codes ":2:3:4:5:6:7:8") ≡ None)
    × (address_of (codes "12345::") ≡ None)
    × (address_of (codes "::192.0.2.1") ≡ None)
    × (address_of (codes "") ≡ None)
