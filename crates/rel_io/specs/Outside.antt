-- The outside: what is known of files, of output and of counts.
--
--   Rose before now                a count rose between two moments
--   Content                        what is known of the content of a name
--   IsGiven c most given           a fetch of at most `most` bytes of the content c may give these bytes
--   AppendsContent c most old new  such a fetch made new of old
--   MayBeMissing c                 the content c is not told to be there
--   TakesPart old new piece        known bytes grew by a beginning of the piece, and not by all of it
--   capped_sum a b                 the sum, which stops at the last value of 64 bits
use Rattle.std.specs.Prelude.{◌≡◌, ℕ, ◌+◌, ◌<◌, ◌≤◌, ◌⊎◌, min, List, ◌++◌, length, take, Option, ⊤}
use Rattle.std.specs.Io.KnownBytes.{Appends}

-- a count rose: it is greater now than before, or stands at the last value of 64 bits, where it can rise no more
abbrev pub Rose : ℕ → ℕ → Type 0
Rose before now = (before < now) ⊎ (now ≡ 18446744073709551615)

-- what is known of a name: nothing, or that it is not there, or that it is there with these bytes
pub data Content : Type 0 where
  untold : Content
  missing : Content
  there : List ℕ → Content

-- a fetch may give these bytes: where the content is told, the name is there, and they are its first `most` bytes
abbrev pub IsGiven : Content → ℕ → List ℕ → Type 0
IsGiven untold most given = ⊤
IsGiven missing most given = ⊥
IsGiven (there bytes) most given = given ≡ take most bytes

-- a fetch keeps the bytes that stood there, and adds at most `most` bytes, the first of the content where that is told
pub record AppendsContent (content : Content) (most : ℕ) (old new : List ℕ) : Type 0 where
  pub given : List ℕ
  pub appended : new ≡ old ++ given
  pub within : length given ≤ most
  pub told : IsGiven content most given

-- where the content is told, the name is not there
abbrev pub MayBeMissing : Content → Type 0
MayBeMissing untold = ⊤
MayBeMissing missing = ⊤
MayBeMissing (there bytes) = ⊥

-- known bytes grew by a beginning of the piece that is shorter than the piece
pub record TakesPart (old new : Option (List ℕ)) (piece : List ℕ) : Type 0 where
  pub count : ℕ
  pub short : count < length piece
  pub appended : Appends old new (take count piece)

-- the sum of two counts, which stops at the last value of 64 bits
abbrev pub capped_sum : ℕ → ℕ → ℕ
capped_sum a b = min (a + b) 18446744073709551615
