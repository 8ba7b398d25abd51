mod LevelFacts
