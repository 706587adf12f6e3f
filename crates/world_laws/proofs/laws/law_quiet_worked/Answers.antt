-- The definitions compute that the worked session is quiet.
use Rattle.std.specs.Prelude.{refl}
use Rattle.std.proofs.Common.{inl, inr}
use Rattle.world_laws.proofs.laws.law_quiet_worked.Goals as goal

pub returns : goal.returns
returns c = record {
  quiet = λ seed. (
    inr (record { keeps = refl; source = refl; target = refl }),
    (
      inr (record { keeps = refl; source = refl; target = refl }),
      (
        inl refl,
        (
          inr (record { keeps = refl; source = refl; target = refl }),
          (
            inl (refl, refl),
            (
              inr (record { keeps = refl; source = refl; target = refl }),
              (
                inl refl,
                (inl refl, refl),
              ),
            ),
          ),
        ),
      ),
    ),
  );
  source = λ seed. refl;
  target = λ seed. refl;
}
