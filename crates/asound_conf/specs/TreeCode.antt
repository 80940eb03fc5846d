-- How a proof distinguishes groups.
use Rattle.std.specs.Prelude.{◌≡◌, ℕ, List}
use Rattle.std.proofs.Common.{ap}
use base.Stored.{Coded, coded_ℕ, coded_list, Gv, gnil, gnum, gcons}
use Rattle.asound_conf.specs.Tree.{Tree, text, group, Entries, empty, entry}

-- the code of some bytes
abbrev pub coded_bytes : Coded (List ℕ)
coded_bytes = coded_list coded_ℕ

abbrev mutual
  pub code_tree : Tree → Gv
  code_tree (text t) = gcons (gnum 0) (coded_bytes.code t)
  code_tree (group g) = gcons (gnum 1) (code_entries g)

  pub code_entries : Entries → Gv
  code_entries empty = gnil
  code_entries (entry name node rest) = gcons (coded_bytes.code name) (gcons (code_tree node) (code_entries rest))

-- an entry is made of its parts
entry_is : {m n : List ℕ} {x y : Tree} {r s : Entries} → m ≡ n → x ≡ y → r ≡ s → entry m x r ≡ entry n y s
entry_is p q r i = entry (p i) (q i) (r i)

-- the code's first and second part
first_of : Gv → Gv
first_of gnil = gnil
first_of (gnum n) = gnil
first_of (gcons a b) = a

mutual
  code_tree_inj : (x y : Tree) → code_tree x ≡ code_tree y → x ≡ y
  code_tree_inj (text a) (text b) p = let same : coded_bytes.code a ≡ coded_bytes.code b = cc in ap text (coded_bytes.inj a b same)
  code_tree_inj (group a) (group b) p = let same : code_entries a ≡ code_entries b = cc in ap group (code_entries_inj a b same)
  code_tree_inj (text a) (group b) p = cc
  code_tree_inj (group a) (text b) p = cc

  pub code_entries_inj : (x y : Entries) → code_entries x ≡ code_entries y → x ≡ y
  code_entries_inj empty empty p = λ i. empty
  code_entries_inj (entry m x r) (entry n y s) p =
      let names : coded_bytes.code m ≡ coded_bytes.code n = cc in
      let nodes : code_tree x ≡ code_tree y = cc in
      let rest : code_entries r ≡ code_entries s = cc in
      entry_is (coded_bytes.inj m n names) (code_tree_inj x y nodes) (code_entries_inj r s rest)
  code_entries_inj empty (entry n y s) p = cc
  code_entries_inj (entry m x r) empty p = cc

-- the code of groups
abbrev pub entries_code : Coded Entries
entries_code = record { code = code_entries; inj = code_entries_inj }
