mod Options
