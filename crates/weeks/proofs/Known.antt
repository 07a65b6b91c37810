-- Every week of the list goes as known.
use Rattle.std.proofs.Common.{refl}
use Rattle.weeks.specs.Weeks.{WeeksKnown}

pub weeks_known : WeeksKnown
weeks_known = (
  (refl, refl, refl),
  (
    (refl, refl, refl),
    (
      (refl, refl, refl),
      (
        (refl, refl, refl),
        (
          (refl, refl, refl),
          (
            (refl, refl, (refl, refl, (refl, refl, refl))),
            (
              (refl, refl, (refl, refl, refl)),
              (
                refl,
                (
                  refl,
                  (
                    refl,
                    (
                      (refl, refl, (refl, refl, refl)),
                      (
                        (refl, refl, refl),
                        (
                          (refl, refl, (refl, refl, (refl, refl, (refl, refl, (refl, refl, (refl, refl, (refl, refl, refl))))))),
                          tt,
                        ),
                      ),
                    ),
                  ),
                ),
              ),
            ),
          ),
        ),
      ),
    ),
  ),
)
