mod Afterwards
