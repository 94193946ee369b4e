use Rattle.std.proofs.Common.{◌≡◌, ℕ, List, [], ◌∷◌, length, get_or, refl, sym, subst, All, arith}
use Rattle.rel_base.specs.declared.values.Value.{Value}
use Rattle.word_table.specs.Encodings.{AreWide}
use Rattle.join_tests.proofs.words.four_encoded.Goals as goal

-- one part whose rows have three columns
wide : (rows : List (List Value)) → All (λ row. length row ≡ 3) rows → AreWide (3 ∷ []) (rows ∷ [])
wide rows all = record {
  many = refl;
  each = λ j h. let first : 0 ≡ j = omega arith in subst (λ (n : ℕ). All (λ row. length row ≡ get_or (3 ∷ []) n 0) (get_or (rows ∷ []) n [])) first all;
}

pub encode-requires : goal.encode-requires
encode-requires c = subst (AreWide (3 ∷ [])) (sym c.in_ok-parts.ensures) (wide c.in_ok-rows.rows c.in_ok-rows.ensures)
