-- How many of some states or edges matches go through. (This project's.)
use Rattle.std.specs.Prelude.{ℕ, ◌==◌, ◌&&◌, List, length, count_by}
use Rattle.lexlook_suites.specs.declared.edges.Part.{Part}
use Rattle.lexlook_suites.specs.declared.shares.Share.{Share}

-- those of a rule
abbrev pub share_of : List Part → ℕ → Share
share_of parts i = record {
  walked = count_by (λ part. (part.rule == i) && part.walked) parts;
  all = count_by (λ part. part.rule == i) parts;
}

-- those of all rules
abbrev pub share_of_all : List Part → Share
share_of_all parts = record { walked = count_by (λ part. part.walked) parts; all = length parts }
