-- Worked files and records: what the definitions give for them.
use Rattle.std.proofs.Common.{◌≡◌, ℕ, pos, negsuc, true, false, codes, Some, None, Ok, Err, List, [], ◌∷◌, ◌++◌, refl}
use Rattle.rel_base.specs.declared.values.Value.{Value}
use Rattle.rel_base.specs.declared.values.Value.TheVariants as variant
use Rattle.rel_base.specs.declared.values.ColType.TheVariants as kind
use Rattle.rel_base.specs.declared.relations.Column.{Column}
use Rattle.relation_csv.specs.Fields.{int_of_field, column_of_field}
use Rattle.relation_csv.specs.declared.faults.RelFault.TheVariants as fault
use Rattle.relation_csv.specs.Faults.{fault_text}
use Rattle.relation_csv.specs.Files.{relation_of_bytes, relation_with, row_of_record}
use Rattle.relation_csv.specs.RecordTexts.{header_record, row_record}
use Rattle.relation_csv.specs.RoundTrip.{file_text}
use Rattle.relation_csv.specs.inner.PlainLines.{BeginsWithInt}
use Rattle.relation_csv.proofs.OnLiterals.{files_on_literals}
use Rattle.relation_csv.proofs.PlainLemmas.{BeginsWithField-comma}

abbrev int_column : List ℕ → Column
int_column name = record { name = name; kind = kind.Int }

abbrev string_column : List ℕ → Column
string_column name = record { name = name; kind = kind.Str }

abbrev bool_column : List ℕ → Column
bool_column name = record { name = name; kind = kind.Bool }

abbrev pair : ℕ → ℕ → List Value
pair m n = variant.Int (pos m) ∷ variant.Int (pos n) ∷ []

three_rows : relation_of_bytes (codes "x:int,y:int\n3,1\n1,2\n2,5\n")
    ≡ Ok (record { schema = int_column (codes "x") ∷ int_column (codes "y") ∷ []; rows = pair 3 1 ∷ pair 1 2 ∷ pair 2 5 ∷ [] })
unfolding files_on_literals
three_rows = refl

carriage_returns : relation_of_bytes (codes "x:int\r\n3\r\n")
    ≡ Ok (record { schema = int_column (codes "x") ∷ []; rows = (variant.Int (pos 3) ∷ []) ∷ [] })
unfolding files_on_literals
carriage_returns = refl

header_without_a_line_feed : relation_of_bytes (codes "x:int") ≡ Ok (record { schema = int_column (codes "x") ∷ []; rows = [] })
unfolding files_on_literals
header_without_a_line_feed = refl

quoted_fields : relation_of_bytes (codes "\"a,b:int\"\n\"3\"\n")
    ≡ Ok (record { schema = int_column (codes "a,b") ∷ []; rows = (variant.Int (pos 3) ∷ []) ∷ [] })
unfolding files_on_literals
quoted_fields = refl

past_64_bits : relation_of_bytes (codes "x:int\n9223372036854775808\n") ≡ Err (fault.BadInt 1 1)
unfolding files_on_literals
past_64_bits = refl

a_short_row : relation_of_bytes (codes "x:int,y:int\n1,2\n3\n") ≡ Err (fault.FieldCount 2)
unfolding files_on_literals
a_short_row = refl

no_bytes : relation_of_bytes [] ≡ Err fault.NoHeader
unfolding files_on_literals
no_bytes = refl

another_type : relation_of_bytes (codes "x:integer\n") ≡ Err (fault.BadHeader 1)
unfolding files_on_literals
another_type = refl

no_colon : column_of_field 1 (codes "x") ≡ Ok (string_column (codes "x"))
no_colon = refl

seventeen_columns : relation_of_bytes (codes ":int,:int,:int,:int,:int,:int,:int,:int,:int,:int,:int,:int,:int,:int,:int,:int,:int\n,1\n") ≡ Err fault.TooManyColumns
unfolding files_on_literals
seventeen_columns = refl

-- the header's faults come in their order, and before those of later records
header_not_text : relation_of_bytes (codes "x:bad," ++ 255 ∷ codes ":int\n1\n") ≡ Err (fault.NotText 0)
unfolding files_on_literals
header_not_text = refl

second_field_is_bad : relation_of_bytes (codes "x:int,y:integer,z:bad\nno\n") ≡ Err (fault.BadHeader 2)
unfolding files_on_literals
second_field_is_bad = refl

-- the first record at fault decides, and in it text comes before the number of fields, and that before a column
later_record_not_text : relation_of_bytes (codes "x:int,y:int\n1,2\n" ++ 255 ∷ codes "\nno,no\n") ≡ Err (fault.NotText 2)
unfolding files_on_literals
later_record_not_text = refl

first_bad_column : relation_of_bytes (codes "x:int,ok:boolean,y:int\n1,maybe,no\n") ≡ Err (fault.BadBool 1 2)
unfolding files_on_literals
first_bad_column = refl

field_count_first : relation_of_bytes (codes "x:int,y:int\nno\n") ≡ Err (fault.FieldCount 1)
unfolding files_on_literals
field_count_first = refl

-- a bad int comes before too many rows: the record itself decides
too_many_rows : row_of_record (int_column (codes "x") ∷ []) 4194305 ((255 ∷ []) ∷ []) ≡ Err fault.TooManyRows
unfolding files_on_literals
too_many_rows = refl

last_row : row_of_record (int_column (codes "x") ∷ []) 4194304 (codes "no" ∷ []) ≡ Err (fault.BadInt 4194304 1)
unfolding files_on_literals
last_row = refl

-- strings, ints and booleans, and a string with a line break
all_types : relation_of_bytes (codes "name:string,n:int,ok:boolean\r\n\"a,\nb\",-9223372036854775808,TRUE\r\n\"\",+7,false\r\n")
    ≡ Ok (record {
      schema = string_column (codes "name") ∷ int_column (codes "n") ∷ bool_column (codes "ok") ∷ [];
      rows = (variant.Str (codes "a,\nb") ∷ variant.Int (negsuc 9223372036854775807) ∷ variant.Bool true ∷ [])
          ∷ (variant.Str [] ∷ variant.Int (pos 7) ∷ variant.Bool false ∷ []) ∷ [];
    })
unfolding files_on_literals
all_types = refl

types_in_any_case : relation_of_bytes (codes "a:LONG,b:String,c:BOOLEAN,d\n1,x,True,y\n")
    ≡ Ok (record {
      schema = int_column (codes "a") ∷ string_column (codes "b") ∷ bool_column (codes "c") ∷ string_column (codes "d") ∷ [];
      rows = (variant.Int (pos 1) ∷ variant.Str (codes "x") ∷ variant.Bool true ∷ variant.Str (codes "y") ∷ []) ∷ [];
    })
unfolding files_on_literals
types_in_any_case = refl

-- a file without a header: the records that are passed over are not read, and not counted
passed_over : relation_with (255 ∷ codes "\nann,3\nbob,4\n") (string_column (codes "n") ∷ int_column (codes "k") ∷ []) 1
    ≡ Ok (record {
      schema = string_column (codes "n") ∷ int_column (codes "k") ∷ [];
      rows = (variant.Str (codes "ann") ∷ variant.Int (pos 3) ∷ []) ∷ (variant.Str (codes "bob") ∷ variant.Int (pos 4) ∷ []) ∷ [];
    })
unfolding files_on_literals
passed_over = refl

not_counted : relation_with (codes "made by hand\nann,x\n") (string_column (codes "n") ∷ int_column (codes "k") ∷ []) 1
    ≡ Err (fault.BadInt 1 2)
unfolding files_on_literals
not_counted = refl

fewer_records : relation_with (codes "a\n") (int_column (codes "k") ∷ []) 2 ≡ Ok (record { schema = int_column (codes "k") ∷ []; rows = [] })
unfolding files_on_literals
fewer_records = refl

-- the words of a fault
words_of_a_fault : fault_text (fault.BadInt 3 1) ≡ codes "record 3 column 1 is not an int"
unfolding files_on_literals
words_of_a_fault = refl

last_colon : column_of_field 1 (codes "a:b:int") ≡ Ok (int_column (codes "a:b"))
last_colon = refl

no_name : column_of_field 1 (codes ":int") ≡ Ok (int_column [])
no_name = refl

with_a_plus : int_of_field (codes "+7") ≡ Some (pos 7)
with_a_plus = refl

least : int_of_field (codes "-9223372036854775808") ≡ Some (negsuc 9223372036854775807)
least = refl

leading_zeros : int_of_field (codes "-007") ≡ Some (negsuc 6)
leading_zeros = refl

minus_zero : int_of_field (codes "-0") ≡ Some (pos 0)
minus_zero = refl

a_sign_alone : int_of_field (codes "-") ≡ None
a_sign_alone = refl

two_signs : int_of_field (codes "+-1") ≡ None
two_signs = refl

empty_field : int_of_field [] ≡ None
empty_field = refl

a_blank : int_of_field (codes " 1") ≡ None
a_blank = refl

header_of_three : header_record ((record { name = codes "name"; kind = kind.Str }) ∷ int_column (codes "n") ∷ (record { name = codes "ok"; kind = kind.Bool }) ∷ [])
    ≡ codes "name:string,n:int,ok:boolean\n"
unfolding files_on_literals
header_of_three = refl

row_of_three : row_record (variant.Str (codes "a,\nb") ∷ variant.Int (negsuc 9223372036854775807) ∷ variant.Bool true ∷ [])
    ≡ codes "\"a,\nb\",-9223372036854775808,true\n"
unfolding files_on_literals
row_of_three = refl

row_with_an_empty_string : row_record (variant.Str [] ∷ variant.Int (pos 7) ∷ variant.Bool false ∷ []) ≡ codes ",7,false\n"
unfolding files_on_literals
row_with_an_empty_string = refl

lone_empty_string : row_record (variant.Str [] ∷ []) ≡ codes "\"\"\n"
unfolding files_on_literals
lone_empty_string = refl

-- the file of a relation, written
file_of_three_rows : file_text (record { schema = int_column (codes "x") ∷ int_column (codes "y") ∷ []; rows = pair 3 1 ∷ pair 1 2 ∷ pair 2 5 ∷ [] })
    ≡ codes "x:int,y:int\n3,1\n1,2\n2,5\n"
unfolding files_on_literals
file_of_three_rows = refl

-- a number with a sign, behind which another field follows
pub begins_with_minus_five : BeginsWithInt (codes "-5,7") (negsuc 4) true (codes "7")
unfolding lib.Utf8.encode
begins_with_minus_five = (codes "-5", (codes "-5", (refl, refl)), BeginsWithField-comma (codes "-5") (codes "7") refl, refl)
