-- The script of a trial.
--
--   trial_script     its bytes
use Rattle.std.specs.Prelude.{ℕ, List, ◌++◌, codes}

-- the triangles of the three relations: each pair of a row's columns meets a pair of the next
unfoldable pub trial_script : List ℕ
trial_script =
    codes "R = scan(E1); S = scan(E2); T = scan(E3);\n"
    ++ codes "Tri = [from R, S, T where R.b = S.a and S.b = T.a and T.b = R.a\n"
    ++ codes "       emit R.a as x, S.a as y, T.a as z];\n"
    ++ codes "store(Tri, Tri);\n"
