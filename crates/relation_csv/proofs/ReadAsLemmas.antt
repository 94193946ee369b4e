-- A fault of a part is a fault of the whole.
use Rattle.std.proofs.Common.{◌≡◌, ◌≢◌, ◌∙◌, Result, Ok, Err, sym, ap}
use Rattle.std.specs.Prelude.{IsErrAnd}
use Rattle.relation_csv.specs.declared.faults.RelFault.{RelFault}
use Rattle.relation_csv.specs.declared.faults.RelFault.TheVariants as fault
use Rattle.relation_csv.specs.Files.{IsReadAs}

-- what `?` answers where it passes want of memory on
pub IsReadAs-memory : {T : Type 0} (r : Result T RelFault) (e : RelFault) (whole : Result T RelFault)
    → IsErrAnd r (λ x. x ≡ e) → e ≡ fault.Memory → IsReadAs r whole
IsReadAs-memory (Ok x) e whole same memory = absurd same
IsReadAs-memory (Err f) e whole same memory = λ short. let is : Err f ≡ Err fault.Memory = cc in absurd (short is)

-- what it answers where it passes the fault of a part on
pub IsReadAs-part : {T U : Type 0} (r : Result U RelFault) (e : RelFault) (part : Result T RelFault)
    (whole : Result U RelFault) → IsErrAnd r (λ x. x ≡ e) → IsReadAs {T = T} (Err e) part
    → (part ≡ Err e → whole ≡ Err e) → IsReadAs r whole
IsReadAs-part (Ok x) e part whole same read more = absurd same
IsReadAs-part {T = T} (Err f) e part whole same read more = λ short.
    let given : Result T RelFault = Err e in
    let other : given ≢ Err fault.Memory = λ m. short (cc) in
    more (read other) ∙ ap Err (sym same)

-- what was read of a part is what the definition gives
pub IsReadAs-Ok : {T : Type 0} (x : T) (given : Result T RelFault) → IsReadAs (Ok x) given → given ≡ Ok x
IsReadAs-Ok x given read = read (λ e. cc)
